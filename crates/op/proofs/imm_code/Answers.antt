-- The constant is the definition's list, and past its end both are 0. Assumes nothing.
use mathlib.Core.Path.{refl, sym}
use lib.ListN.{get_or-eq_default}
use Rattle.op.specs.Ops.{imm_codes, imm_code}
use Rattle.op.proofs.imm_code.Goals as goal

pub returns-then-operator-lt9 : goal.returns-then-operator-lt9
unfolding imm_codes imm_code
returns-then-operator-lt9 c = refl

pub returns-else-operator-lt9 : goal.returns-else-operator-lt9
unfolding imm_codes imm_code
returns-else-operator-lt9 c = sym (get_or-eq_default imm_codes 0 c.if-operator-lt9.false)
