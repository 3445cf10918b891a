-- Each part fits its field by its remainder or quotient. Assumes nothing.
use mathlib.Core.Path.{refl}
use Rattle.op.specs.Words.{parts}
use Rattle.op.proofs.unpack.Goals as goal

pub returns : goal.returns
unfolding parts
returns c = refl
