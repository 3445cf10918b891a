-- The test of the kind is the definition's.
use Rattle.std.proofs.Common.{rules}
use borrow.Author.Tests.{tests}
use Rattle.fit.specs.Callees.{row_callee}
use Rattle.fit.proofs.callee_term.Goals as goal

pub returns-then-block_field-ne-TAIL : goal.returns-then-block_field-ne-TAIL
unfolding row_callee
returns-then-block_field-ne-TAIL c = search (rules, tests)

pub returns-else-block_field-ne-TAIL : goal.returns-else-block_field-ne-TAIL
unfolding row_callee
returns-else-block_field-ne-TAIL c = search (rules, tests)
