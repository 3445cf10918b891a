-- The six tests joined are those of the definition, by what each callee ensures.
use Rattle.shape.specs.Shape.{instr_shape}
use Rattle.shape.proofs.Tests.{or_where, all_six}
use Rattle.shape.proofs.instr_shape.Goals as goal

pub returns : goal.returns
unfolding instr_shape
returns c =
    rw (all_six, c.cast_ok.ensures, c.head_field.ensures, c.instr_field-3.ensures)
    (rw (c.list_in.ensures, c.instr_field-2.ensures, c.instr_field.ensures)
    (rw (c.head_field-constants.ensures, c.instr_field-y.ensures, c.instr_field-x.ensures, c.instr_field-kind.ensures)
    (simp or_where)))
