-- The word at the table's start, the record's place in it, and the field's in that.
use Rattle.input.specs.Layout.{pool_at}
use Rattle.input.proofs.pool_at.Goals as goal

pub returns : goal.returns
unfolding pool_at
returns c = cc
