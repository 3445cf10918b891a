-- A tombstone has no rows; a live block has its instructions and its terminator.
use mathlib.Core.Path.{sym, ◌∙◌}
use borrow.Author.Tests.{eq-eqb, ne_eqb}
use Rattle.interning.specs.Asked.{asked_by, rows_by}
use Rattle.interning.proofs.Passes.{block_dead, block-live}
use Rattle.interning.proofs.Interned.{constants_in_turn, params_none}
use Rattle.interning.proofs.intern_block.Goals as goal

pub returns-then-block_field-ne0 : goal.returns-then-block_field-ne0
returns-then-block_field-ne0 c =
    let a = c.args in
    block_dead (constants_in_turn (asked_by a.asked) a.ws.now) (rows_by a.asked a.ws.now) a.ws.now a.b _ _
    (ne_eqb _ 0 (λ z. c.if-block_field-ne0.true (c.block_field.ensures ∙ z)))

pub returns : goal.returns
returns c =
    let a = c.args in
    block-live (constants_in_turn (asked_by a.asked) a.ws.now) (rows_by a.asked a.ws.now) a.ws.now a.b
    (eq-eqb _ 0 (sym c.block_field.ensures ∙ c.if-block_field-ne0.false)) (params_none a.ws.now a.b a.asked)
    (rw (c.block_field-first.ensures, c.block_field-n.ensures) at c.intern_instrs-f.ensures) c.intern_term.ensures
