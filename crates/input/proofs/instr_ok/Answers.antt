-- Seven tests that all have to pass are the chain of `instr_ok`, by what the callees ensure of each.
use Rattle.input.specs.Forms.{instr_ok}
use Rattle.input.proofs.Chain.{all_seven}
use Rattle.input.proofs.instr_ok.Goals as goal

pub returns : goal.returns
unfolding instr_ok
returns c = rw all_seven (cc)
