-- The word at the table's start, the record's place in it, and the field's in that.
use Rattle.input.specs.Layout.{instr_field}
use Rattle.input.proofs.instr_field.Goals as goal

pub returns : goal.returns
unfolding instr_field
returns c = cc
