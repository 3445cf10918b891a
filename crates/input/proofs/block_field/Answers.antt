-- The word at the table's start, the record's place in it, and the field's in that.
use Rattle.input.specs.Layout.{block_field}
use Rattle.input.proofs.block_field.Goals as goal

pub returns : goal.returns
unfolding block_field
returns c = cc
