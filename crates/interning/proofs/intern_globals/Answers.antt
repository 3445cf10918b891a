-- One pass after the other.
use Rattle.grow.proofs.Growing.{then}
use Rattle.interning.specs.Interning.{globals_after}
use Rattle.interning.proofs.intern_globals.Goals as goal

pub returns : goal.returns
unfolding globals_after
returns c = then c.intern_strings-f.ensures c.intern_pass.ensures
