-- A live block has a row for its parameters, one for each instruction and one for its terminator.
use mathlib.Core.Path.{sym, ◌∙◌}
use native.Mathlib.Omega.{arith}
use borrow.Author.Tests.{eq-eqb, ne_eqb}
use Rattle.rows.proofs.Every.{length-dead, length-live}
use Rattle.judge.proofs.rows_in.Goals as goal

pub returns-then-block_field-ne0 : goal.returns-then-block_field-ne0
returns-then-block_field-ne0 c =
    let a = c.args in
    sym (length-dead a.ws.now a.b (ne_eqb _ _ (λ e. c.if-block_field-ne0.true (c.block_field.ensures ∙ e))))

pub overflow_cast-result : goal.overflow_cast-result
overflow_cast-result c =
    let a = c.args in
    omega (arith, length-live a.ws.now a.b (eq-eqb _ _ (sym c.block_field.ensures ∙ c.if-block_field-ne0.false)))

pub overflow_add-result : goal.overflow_add-result
overflow_add-result c =
    let a = c.args in
    omega (arith, length-live a.ws.now a.b (eq-eqb _ _ (sym c.block_field.ensures ∙ c.if-block_field-ne0.false)))

pub returns : goal.returns
returns c =
    let a = c.args in
    omega (arith, length-live a.ws.now a.b (eq-eqb _ _ (sym c.block_field.ensures ∙ c.if-block_field-ne0.false)))
