-- The three tests joined are those of the definition, by what each callee ensures.
use Rattle.shape.specs.Shape.{params_shape}
use Rattle.input.proofs.Chain.{all_two, both_rest}
use Rattle.shape.proofs.params_shape.Goals as goal

pub returns : goal.returns
unfolding params_shape
returns c =
    rw (c.part_in.ensures, c.head_field.ensures, c.list_in.ensures)
    (rw (c.block_field-3.ensures, c.block_field-2.ensures, c.block_field.ensures)
    (rw (c.block_field-count.ensures, c.block_field-first.ensures) (simp (all_two, both_rest))))
