-- Each answer is the definition with the tests that led there.
use Rattle.std.proofs.Common.{rules}
use borrow.Author.Tests.{tests}
use Rattle.fit.specs.Intervals.{fit_def}
use Rattle.fit.proofs.fit_def.Goals as goal

pub returns-then-start-end : goal.returns-then-start-end
unfolding fit_def
returns-then-start-end c = search (rules, tests)

pub returns-else-start-end : goal.returns-else-start-end
unfolding fit_def
returns-else-start-end c = search (rules, tests)
