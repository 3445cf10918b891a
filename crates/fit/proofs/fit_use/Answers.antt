-- A value's row and 1 stands in the table: each answer is the definition by the tests of that word.
use Rattle.std.proofs.Common.{rules}
use borrow.Author.Tests.{tests}
use Rattle.fit.proofs.Checks.{use_tabled}
use Rattle.fit.proofs.fit_use.Goals as goal

pub returns-then-next-r : goal.returns-then-next-r
returns-then-next-r c = λ ds t. rw (use_tabled c.args.ws.now c.args.rows.now ds c.args.r c.args.v t) (search (rules, tests))

pub returns-else-next-r : goal.returns-else-next-r
returns-else-next-r c = λ ds t. rw (use_tabled c.args.ws.now c.args.rows.now ds c.args.r c.args.v t) (search (rules, tests))
