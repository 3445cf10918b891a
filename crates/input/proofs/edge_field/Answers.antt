-- The word at the table's start, the record's place in it, and the field's in that.
use Rattle.input.specs.Layout.{edge_field}
use Rattle.input.proofs.edge_field.Goals as goal

pub returns : goal.returns
unfolding edge_field
returns c = cc
