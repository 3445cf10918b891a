-- The test of the kind is the definition's.
use Rattle.std.proofs.Common.{rules}
use borrow.Author.Tests.{tests}
use Rattle.fit.specs.Callees.{row_callee}
use Rattle.fit.proofs.callee_instr.Goals as goal

pub returns-then-instr_field-ne-CALL : goal.returns-then-instr_field-ne-CALL
unfolding row_callee
returns-then-instr_field-ne-CALL c = search (rules, tests)

pub returns-else-instr_field-ne-CALL : goal.returns-else-instr_field-ne-CALL
unfolding row_callee
returns-else-instr_field-ne-CALL c = search (rules, tests)
