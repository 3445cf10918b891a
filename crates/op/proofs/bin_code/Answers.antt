-- The constant is the definition's list, and past its end both are 0. Assumes nothing.
use mathlib.Core.Path.{refl, sym}
use lib.ListN.{get_or-eq_default}
use Rattle.op.specs.Ops.{bin_codes, bin_code}
use Rattle.op.proofs.bin_code.Goals as goal

pub returns-then-operator-lt17 : goal.returns-then-operator-lt17
unfolding bin_codes bin_code
returns-then-operator-lt17 c = refl

pub returns-else-operator-lt17 : goal.returns-else-operator-lt17
unfolding bin_codes bin_code
returns-else-operator-lt17 c = sym (get_or-eq_default bin_codes 0 c.if-operator-lt17.false)
