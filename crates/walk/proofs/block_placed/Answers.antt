-- A dead block defines nothing; a live one its parameters and its destinations.
use mathlib.Core.Path.{◌≡◌, sym, ◌∙◌}
use borrow.Author.Tests.{eq-eqb}
use Rattle.base.proofs.Numbers.{pick_true, pick-false}
use Rattle.input.specs.Records.{tombstone}
use Rattle.walk.proofs.Placed.{dead-placed, live-placed}
use Rattle.walk.proofs.block_placed.Goals as goal

pub returns-then-dead-ne0 : goal.returns-then-dead-ne0
returns-then-dead-ne0 c = sym (dead-placed c.args.map.now c.args.ws.now c.args.b (rw c.block_field-dead.ensures at c.if-dead-ne0.true))

pub returns-else-list_placed : goal.returns-else-list_placed
returns-else-list_placed c = let a = c.args in
    let h : tombstone a.ws.now a.b ≡ 0 = rw c.block_field-dead.ensures at c.if-dead-ne0.false in
    c.if-list_placed.false
    ∙ sym
    (live-placed a.map.now a.ws.now a.b h
    ∙ pick-false _ _ _ (sym (rw (c.block_field-at.ensures, c.block_field-k.ensures) at c.list_placed.ensures) ∙ c.if-list_placed.false))

pub instrs_placed-requires : goal.instrs_placed-requires
instrs_placed-requires c = let a = c.args in
    let h : tombstone a.ws.now a.b ≡ 0 = rw c.block_field-dead.ensures at c.if-dead-ne0.false in
    rw (c.block_field-first.ensures, c.block_field-n.ensures) (c.requires.fits.instrs a.b c.requires.b_bound (eq-eqb _ _ h))

pub returns-then-list_placed : goal.returns-then-list_placed
returns-then-list_placed c = let a = c.args in
    let h : tombstone a.ws.now a.b ≡ 0 = rw c.block_field-dead.ensures at c.if-dead-ne0.false in
    rw (c.block_field-first.ensures, c.block_field-n.ensures) at c.instrs_placed.ensures
    ∙ sym
    (live-placed a.map.now a.ws.now a.b h
    ∙ pick_true _ _ _ (sym (rw (c.block_field-at.ensures, c.block_field-k.ensures) at c.list_placed.ensures) ∙ c.if-list_placed.true))
