-- A tombstone has no rows; of a live block only instructions have builtins.
use mathlib.Core.Path.{sym, ◌∙◌}
use borrow.Author.Tests.{eq-eqb, ne_eqb}
use Rattle.interning.specs.Interning.{row_builtins}
use Rattle.interning.proofs.Passes.{block_dead, block-live}
use Rattle.interning.proofs.Interned.{builtins_in_turn, term_none, no_builtins}
use Rattle.interning.proofs.block_builtins.Goals as goal

pub returns-then-block_field-ne0 : goal.returns-then-block_field-ne0
returns-then-block_field-ne0 c =
    let a = c.args in
    block_dead builtins_in_turn (row_builtins a.ws.now) a.ws.now a.b _ _ (ne_eqb _ 0 (λ z. c.if-block_field-ne0.true (c.block_field.ensures ∙ z)))

pub returns : goal.returns
returns c =
    let a = c.args in
    block-live builtins_in_turn (row_builtins a.ws.now) a.ws.now a.b
    (eq-eqb _ 0 (sym c.block_field.ensures ∙ c.if-block_field-ne0.false)) (no_builtins a.ws.now a.b)
    (rw (c.block_field-first.ensures, c.block_field-n.ensures) at c.instrs_builtins.ensures) (term_none a.ws.now a.b _ _)
