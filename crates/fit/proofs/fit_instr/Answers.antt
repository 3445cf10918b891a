-- The row's uses, then its destination as a list of none or one.
use Rattle.std.proofs.Common.{rules}
use borrow.Author.Tests.{tests}
use Rattle.fit.specs.Intervals.{fit_row}
use Rattle.fit.proofs.Checks.{defs_none, defs_some}
use Rattle.fit.proofs.fit_instr.Goals as goal

pub returns-then-d-eq0 : goal.returns-then-d-eq0
unfolding fit_row
returns-then-d-eq0 c = search (rules, tests, defs_none, defs_some)

pub returns-else-d-eq0 : goal.returns-else-d-eq0
unfolding fit_row
returns-else-d-eq0 c = search (rules, tests, defs_none, defs_some)

pub returns-else-fit_uses : goal.returns-else-fit_uses
unfolding fit_row
returns-else-fit_uses c = search (rules, tests)
