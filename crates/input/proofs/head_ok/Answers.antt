-- Seven tests that all have to pass are the chain of `head_ok`, by what the callees ensure of each.
use Rattle.input.specs.Forms.{head_ok}
use Rattle.input.proofs.Chain.{all_seven}
use Rattle.input.proofs.head_ok.Goals as goal

pub returns : goal.returns
unfolding head_ok
returns c = rw all_seven (cc)
