-- An unused function is not judged; of a used one the verdict says 1, 2 and 3.
use mathlib.Core.Path.{sym, ◌∙◌}
use borrow.Author.Tests.{eq-eqb, ne_eqb}
use Rattle.place.specs.Registers.{registers}
use Rattle.strings.proofs.Judging.{judged_low, unused_low}
use Rattle.strings.proofs.unfit_string.Goals as goal

pub returns-then-head_field-ne0 : goal.returns-then-head_field-ne0
returns-then-head_field-ne0 c = unused_low registers c.args.ws.now (ne_eqb _ 0 (λ z. c.if-head_field-ne0.true (c.head_field.ensures ∙ z)))

pub returns : goal.returns
returns c = judged_low registers c.args.ws.now _ _ _ c.low.ensures c.judge.ensures (eq-eqb _ 0 (sym c.head_field.ensures ∙ c.if-head_field-ne0.false))
