-- The registers that stand there and those that are left give them all.
use mathlib.Core.Path.{◌∙◌}
use native.Mathlib.Omega.{arith}
use Rattle.frame.proofs.Saving.{saved-turn, saved-end}
use Rattle.frame.proofs.saved_regs.Goals as goal

pub loop-r-preserved : goal.loop-r-preserved
loop-r-preserved c =
    let now = c.loop-r in
    let v = now.invariant in (
      omega (arith, v.0),
      omega (arith, v.0),
      saved-turn now.regs now.k now.r _ (omega (arith, v.0)) c.loop-r-test.true ∙ v.2,
    )

pub returns : goal.returns
returns c =
    let now = c.loop-r in
    (now.invariant.1, saved-end now.regs now.k _ _ _ c.loop-r-test.false now.invariant.2 c.first_kept-r.ensures)
