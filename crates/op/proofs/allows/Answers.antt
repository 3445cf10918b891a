-- Five tests that all have to pass are the chain of choices in `allowed`, by what the callees ensure of each. Assumes nothing.
use Rattle.op.specs.Words.{allowed}
use Rattle.op.proofs.Chain.{all_five}
use Rattle.op.proofs.allows.Goals as goal

pub returns : goal.returns
unfolding allowed
returns c = rw all_five (cc)
