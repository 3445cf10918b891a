-- What stands in the column and the registers of the mask from r on make up the whole.
use mathlib.Core.Path.{sym, ◌∙◌}
use native.Mathlib.Omega.{arith}
use Rattle.fit.proofs.Counts.{counted-turn, counted-end}
use Rattle.edges.proofs.Columns.{toward_turn, toward_end}
use Rattle.calls.proofs.Masked.{masked_counted, masked_in, masked_out}
use Rattle.calls.proofs.pushes_of.Goals as goal
use Rattle.calls.proofs.pushes_of.Goals.{then-has, else-has}

pub loop-r-preserved : goal.loop-r-preserved
loop-r-preserved c =
    let a = c.args in
    let l = c.loop-r in
    let v = l.invariant in
    let m = c.has.ensures in
    let t = counted-turn (masked_counted a.mask) a.limit l.r c.loop-r-test.true in
    elim c.if-has.branch [
      | then-has w ↦
          rw (w.regs-is, w.k-is) (
            omega (arith, v.0),
            toward_turn _ _ _ _ v.1 t (masked_in a.mask l.r l.regs l.k (sym m ∙ w.if-has.true) (omega (arith, v.0))),
          )
      | else-has w ↦
          rw (w.regs-is, w.k-is) (
            omega (arith, v.0),
            toward_turn _ _ _ _ v.1 t (masked_out a.mask l.r _ (sym m ∙ w.if-has.false)),
          )
    ]

pub returns : goal.returns
returns c =
    let l = c.loop-r in
    let v = l.invariant in
    (omega (arith, v.0), toward_end v.1 (counted-end (masked_counted _) _ l.r c.loop-r-test.false))
