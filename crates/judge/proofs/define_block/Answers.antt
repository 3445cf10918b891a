-- A live block's definitions are its parameters and then its instructions' destinations: the first that has a row already stops.
use mathlib.Core.Bool.{true}
use mathlib.Core.Path.{◌≡◌, sym, ◌∙◌}
use Rattle.input.specs.Records.{is_live}
use native.Mathlib.Omega.{arith}
use borrow.Author.Tests.{eq-eqb, ne_eqb}
use Rattle.input.specs.Layout.{head_field}
use Rattle.rows.proofs.Every.{length-live}
use Rattle.judge.proofs.Fills.{block_dead, block-stop, block_go}
use Rattle.judge.proofs.define_block.Goals as goal
use Rattle.judge.proofs.define_block.Goals.{Else-block_field-ne0}

-- no tombstone
live : (c : Else-block_field-ne0) → is_live c.args.ws.now c.args.b ≡ true
live c = eq-eqb _ _ (sym c.block_field.ensures ∙ c.if-block_field-ne0.false)

pub returns-then-block_field-ne0 : goal.returns-then-block_field-ne0
returns-then-block_field-ne0 c =
    let a = c.args in
    block_dead a.ws.now a.r a.b a.table.now a.table.now (ne_eqb _ _ (λ e. c.if-block_field-ne0.true (c.block_field.ensures ∙ e)))

pub returns-then-not-define_params : goal.returns-then-not-define_params
returns-then-not-define_params c =
    let call = c.define_params in
    let a = c.args in
    block-stop a.ws.now a.r a.b a.table.now call.new.table (live (goal.at.returns-then-not-define_params c).Else-block_field-ne0)
    (rw c.if-not-define_params.true at call.ensures)

pub define_instrs-requires : goal.define_instrs-requires
unfolding head_field
define_instrs-requires c =
    let n = c.block_field-n.ensures in (
      omega (arith, c.requires.1 (live (goal.at.define_instrs-requires c).Else-block_field-ne0), c.block_field-first.ensures, n, c.type_inv.ws 5),
      omega (arith, length-live c.args.ws.now c.args.b (live (goal.at.define_instrs-requires c).Else-block_field-ne0), n, c.requires.0),
    )

pub returns : goal.returns
returns c =
    let call = c.define_params in
    let a = c.args in
    let n = c.block_field-n.ensures in
    let first = c.block_field-first.ensures in
    block_go a.ws.now a.r a.b a.table.now call.new.table (live (goal.at.returns c).Else-block_field-ne0)
    (rw c.if-not-define_params.false at call.ensures)
    (rw (first, n) at c.define_instrs.ensures)
