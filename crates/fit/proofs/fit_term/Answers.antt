-- The row's uses, then its edges.
use Rattle.std.proofs.Common.{rules}
use borrow.Author.Tests.{tests}
use Rattle.fit.specs.Intervals.{fit_row}
use Rattle.fit.proofs.fit_term.Goals as goal

pub returns-then-fit_uses : goal.returns-then-fit_uses
unfolding fit_row
returns-then-fit_uses c = search (rules, tests)

pub returns-else-fit_uses : goal.returns-else-fit_uses
unfolding fit_row
returns-else-fit_uses c = search (rules, tests)
