-- What is emitted and the pads that are left make up the whole: a label and an edge for a case with moves, nothing for one without.
use mathlib.Core.Path.{sym, ◌∙◌}
use native.Mathlib.Omega.{arith}
use Rattle.base.proofs.Pens.{left-turn, left_end, lowers_none, then}
use Rattle.place.specs.Registers.{registers}
use Rattle.edges.proofs.Padding.{pads_pad, pads_skip, pads-end}
use Rattle.edges.proofs.put_pads.Goals as goal
use Rattle.edges.proofs.put_pads.Goals.{then-has_moves, else-has_moves}

pub loop-i-preserved : goal.loop-i-preserved
loop-i-preserved c =
    let a = c.args in
    let l = c.loop-i in
    let v = l.invariant in
    let h = c.loop-i-test.true in
    let m = c.has_moves.ensures in
    elim c.if-has_moves.branch [
      | then-has_moves w ↦
          rw (w.ops-is, w.spans-is, w.labels-is, w.q-is, w.pad-is) (
            omega (arith, v.0),
            left-turn _ v.1 (then (w.bind_label.ensures _ _) (w.put_edge-q.ensures _))
                (pads_pad a.vs.ws.now a.vs.map.now a.e registers a.k l.pad l.i h (sym m ∙ w.if-has_moves.true) c.head_field-nowhere.ensures),
          )
      | else-has_moves w ↦
          rw (w.ops-is, w.spans-is, w.labels-is, w.q-is, w.pad-is) (
            omega (arith, v.0),
            left-turn _ v.1 (lowers_none _ _ _ _) (pads_skip a.vs.ws.now a.vs.map.now a.e registers a.k l.pad l.i h (sym m ∙ w.if-has_moves.false)),
          )
    ]

pub returns : goal.returns
returns c =
    let a = c.args in
    left_end c.loop-i.invariant.1 (pads-end a.vs.ws.now a.vs.map.now a.e registers a.k _ _ c.loop-i-test.false)
