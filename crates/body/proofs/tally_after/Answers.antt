-- One law for a block with a Switch and one for another.
use mathlib.Core.Path.{sym, ◌∙◌}
use native.Mathlib.Omega.{arith}
use Rattle.body.proofs.Blocks.{pads_few, tally-switch, tally_other}
use Rattle.body.proofs.tally_after.Goals as goal

pub returns-then-block_field-ne-SWITCH : goal.returns-then-block_field-ne-SWITCH
returns-then-block_field-ne-SWITCH c =
    tally_other _ _ _ _ c.block_field.ensures c.block_field-first.ensures c.block_field-n.ensures c.lookups_in.ensures.0 c.if-block_field-ne-SWITCH.true

pub overflow_add-result-2 : goal.overflow_add-result-2
overflow_add-result-2 c =
    let cases = c.requires.0.cases _ c.requires.1 (sym c.block_field.ensures ∙ c.if-block_field-ne-SWITCH.false) in
    omega (arith, pads_few _ _ _ _ c.pad_count-pads.ensures, c.block_field-2.ensures, cases.few, c.requires)

pub returns : goal.returns
returns c =
    tally-switch _ _ _ _ c.block_field.ensures c.block_field-first.ensures c.block_field-n.ensures c.lookups_in.ensures.0 c.if-block_field-ne-SWITCH.false
    c.block_field-e.ensures c.block_field-2.ensures c.pad_count-pads.ensures
