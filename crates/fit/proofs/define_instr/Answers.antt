-- A destination as a list of none or one.
use Rattle.std.proofs.Common.{rules}
use borrow.Author.Tests.{tests}
use Rattle.rows.specs.Rows.{row_defs}
use Rattle.fit.proofs.Filling.{marked_none, marked-some}
use Rattle.fit.proofs.define_instr.Goals as goal

pub returns-then-d-eq0 : goal.returns-then-d-eq0
unfolding row_defs
returns-then-d-eq0 c = search (rules, tests, marked_none, marked-some)

pub returns-else-d-eq0 : goal.returns-else-d-eq0
unfolding row_defs
returns-else-d-eq0 c = search (rules, tests, marked_none, marked-some)
