-- The word at the table's start, the record's place in it, and the field's in that.
use Rattle.input.specs.Layout.{head_field}
use borrow.Author.Rules.{rules}
use Rattle.input.proofs.head_field.Goals as goal

pub returns : goal.returns
unfolding head_field
returns c = search rules
