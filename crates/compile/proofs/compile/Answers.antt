-- The work room is zeroed, and where the attempt is refused the rest behind the used lengths.
use mathlib.Core.Path.{sym, ◌∙◌}
use Rattle.compile.proofs.Endings.{ends-done, ends-refused}
use Rattle.compile.proofs.compile.Goals as goal

pub returns-then-is_err : goal.returns-then-is_err
returns-then-is_err c =
    let t = c.attempt-answer.auto in
    ends-refused c.fill_from.ensures c.fill_from-2.ensures c.fill_from-3.ensures t.hints t.noted t.labels _ (sym c.is_err.ensures.value ∙ c.if-is_err.true) c.attempt-answer.ensures
    c.wipe_lists.ensures c.wipe_tables.ensures c.fill_from-then-is_err.ensures t.places

pub returns-else-is_err : goal.returns-else-is_err
returns-else-is_err c =
    let t = c.attempt-answer.auto in
    ends-done c.fill_from.ensures c.fill_from-2.ensures c.fill_from-3.ensures t.hints t.noted t.labels _ (sym c.is_err.ensures.value ∙ c.if-is_err.false) c.attempt-answer.ensures
