-- The tests joined are those of the definition, by what each callee ensures.
use Rattle.shape.specs.Counts.{block_counts}
use Rattle.input.proofs.Chain.{all_two, both_rest}
use Rattle.shape.proofs.Tests.{or_where}
use Rattle.shape.proofs.block_counts.Goals as goal

pub returns : goal.returns
unfolding block_counts
returns c =
    rw (c.cases_ok.ensures, c.block_field-3.ensures, c.most_arguments.ensures, c.block_field-2.ensures)
    (rw (c.most_parameters.ensures, c.block_field.ensures, c.block_field-kind.ensures)
    (simp (all_two, or_where, both_rest)))
