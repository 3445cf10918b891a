-- Two tests that both have to pass are the choice of `block_ok`.
use Rattle.input.specs.Forms.{block_ok}
use Rattle.input.proofs.Chain.{all_two}
use Rattle.input.proofs.block_ok.Goals as goal

pub returns : goal.returns
unfolding block_ok
returns c = rw all_two (cc)
