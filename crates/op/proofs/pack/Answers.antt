-- The sums fit 64 bits since each field fits its own. Assumes nothing.
use mathlib.Core.Path.{refl}
use Rattle.op.specs.Words.{word}
use Rattle.op.proofs.pack.Goals as goal

pub returns : goal.returns
unfolding word
returns c = refl
