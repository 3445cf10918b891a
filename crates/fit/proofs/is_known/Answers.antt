-- The tests are the definition's.
use Rattle.std.proofs.Common.{rules}
use borrow.Author.Tests.{tests}
use Rattle.fit.specs.Callees.{known}
use Rattle.fit.proofs.is_known.Goals as goal

pub returns-then-f-head_field : goal.returns-then-f-head_field
unfolding known
returns-then-f-head_field c = search (rules, tests)

pub returns-else-f-head_field : goal.returns-else-f-head_field
unfolding known
returns-else-f-head_field c = search (rules, tests)
