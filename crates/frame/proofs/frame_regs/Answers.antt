-- The saved registers, and one for each slot.
use native.Mathlib.Omega.{arith}
use Rattle.frame.proofs.Saving.{regs_are}
use Rattle.frame.proofs.frame_regs.Goals as goal

pub returns : goal.returns
returns c = (
  omega (arith, c.slot_regs.ensures.0, c.saved_regs-k.ensures.0, c.saved_up_to.ensures.1, c.requires),
  regs_are _ _ _ _ _ _ _ c.saved_up_to.ensures.0 c.saved_regs-k.ensures.1 c.slot_regs.ensures.1,
)
