-- The entry is judged.
use mathlib.Core.Path.{sym, ◌∙◌}
use Rattle.first_checks.proofs.with_entry.Goals as goal

pub returns-then-enough : goal.returns-then-enough
returns-then-enough c = λ b z. rw (sym (c.enough.ensures b z) ∙ c.if-enough.true)

pub returns : goal.returns
returns c = λ b z. rw (sym (c.enough.ensures b z) ∙ c.if-enough.false)
