-- Seven tests that all have to pass are the chain of `term_ok`, by what the callees ensure of each.
use Rattle.input.specs.Forms.{term_ok}
use Rattle.input.proofs.Chain.{all_seven}
use Rattle.input.proofs.term_ok.Goals as goal

pub returns : goal.returns
unfolding term_ok
returns c = rw all_seven (cc)
