-- The constant is the definition's list, and past its end both are 0. Assumes nothing.
use mathlib.Core.Path.{refl, sym}
use lib.ListN.{get_or-eq_default}
use Rattle.op.specs.Fields.{table, fields_of}
use Rattle.op.proofs.fields.Goals as goal

pub returns-then-code-lt61 : goal.returns-then-code-lt61
unfolding table fields_of
returns-then-code-lt61 c = refl

pub returns-else-code-lt61 : goal.returns-else-code-lt61
unfolding table fields_of
returns-else-code-lt61 c = sym (get_or-eq_default table 0 c.if-code-lt61.false)
