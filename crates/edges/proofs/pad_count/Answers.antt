-- What is counted and what is left to count make up the whole.
use mathlib.Core.Path.{sym, ◌∙◌}
use native.Mathlib.Omega.{arith}
use Rattle.edges.proofs.Padding.{count_pad, count_skip, count-end}
use Rattle.edges.proofs.pad_count.Goals as goal
use Rattle.edges.proofs.pad_count.Goals.{then-has_moves, else-has_moves}

pub loop-i-preserved : goal.loop-i-preserved
loop-i-preserved c =
    let a = c.args in
    let l = c.loop-i in
    let h = c.loop-i-test.true in
    let m = c.has_moves.ensures in
    elim c.if-has_moves.branch [
      | then-has_moves w ↦
          let t = count_pad a.vs.ws.now a.vs.map.now a.e a.k l.i h (sym m ∙ w.if-has_moves.true) in
          (omega (arith, w.count-is), omega (arith, l.invariant.1, w.count-is))
      | else-has_moves w ↦
          let t = count_skip a.vs.ws.now a.vs.map.now a.e a.k l.i h (sym m ∙ w.if-has_moves.false) in
          (omega (arith, w.count-is), omega (arith, l.invariant.1, w.count-is))
    ]

pub returns : goal.returns
returns c =
    let a = c.args in
    let l = c.loop-i in
    omega (arith, l.invariant.1, count-end a.vs.ws.now a.vs.map.now a.e a.k l.i c.loop-i-test.false)
