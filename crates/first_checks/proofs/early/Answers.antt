-- Words come first, then used lengths, then the other verdicts.
use mathlib.Core.Path.{sym, ◌∙◌}
use Rattle.place.specs.Registers.{registers}
use Rattle.first_checks.proofs.Sizes.{early-word, early_many, early-rest}
use Rattle.first_checks.proofs.early.Goals as goal

pub returns-then-number_for-eq1 : goal.returns-then-number_for-eq1
returns-then-number_for-eq1 c = let a = c.args in
    λ b z.
    let one = sym c.number_for.ensures ∙ c.if-number_for-eq1.true in
    one ∙ early-word registers a.ws.now a.functions.now _ c.judge-v.ensures _ one

pub returns-then-used_ok : goal.returns-then-used_ok
returns-then-used_ok c = let a = c.args in
    λ b z.
    early-rest registers a.ws.now a.functions.now _ c.judge-v.ensures (λ e. c.if-number_for-eq1.false (c.number_for.ensures ∙ e)) _ (sym (c.used_ok.ensures b z) ∙ c.if-used_ok.true)

pub returns : goal.returns
returns c = let a = c.args in
    λ b z.
    early_many registers a.ws.now a.functions.now _ c.judge-v.ensures (λ e. c.if-number_for-eq1.false (c.number_for.ensures ∙ e)) _ (sym (c.used_ok.ensures b z) ∙ c.if-used_ok.false)
