-- The word at the table's start, the record's place in it, and the field's in that.
use Rattle.input.specs.Layout.{constant_field}
use Rattle.input.proofs.constant_field.Goals as goal

pub returns : goal.returns
unfolding constant_field
returns c = cc
