-- Two tests that both have to pass are the choice of `constant_ok`.
use Rattle.input.specs.Forms.{constant_ok}
use Rattle.input.proofs.Chain.{all_two}
use Rattle.input.proofs.constant_ok.Goals as goal

pub returns : goal.returns
unfolding constant_ok
returns c = rw all_two (cc)
