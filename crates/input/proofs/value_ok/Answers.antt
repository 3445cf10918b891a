-- The hint is the word that `value_field` ensures.
use Rattle.input.specs.Forms.{value_ok}
use Rattle.input.proofs.value_ok.Goals as goal

pub returns : goal.returns
unfolding value_ok
returns c = cc
