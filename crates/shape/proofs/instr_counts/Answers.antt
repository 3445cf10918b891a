-- The tests joined are those of the definition, by what each callee ensures.
use Rattle.shape.specs.Counts.{instr_counts}
use Rattle.input.proofs.Chain.{all_two, both_rest}
use Rattle.shape.proofs.Tests.{or_where}
use Rattle.shape.proofs.instr_counts.Goals as goal

pub returns : goal.returns
unfolding instr_counts
returns c =
    rw (c.cases_ok.ensures, c.instr_field-2.ensures, c.most_arguments.ensures)
    (rw (c.instr_field.ensures, c.instr_field-kind.ensures) (simp (all_two, or_where, both_rest)))
