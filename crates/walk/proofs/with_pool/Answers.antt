-- The pool that was made is the one that the walk takes.
use mathlib.Core.Path.{ap, ◌∙◌}
use native.Mathlib.Omega.{arith}
use Rattle.place.proofs.Registers.{registers_most}
use Rattle.assign.specs.Walk.{pool_of}
use Rattle.walk.proofs.with_pool.Goals as goal

pub pool_of-requires : goal.pool_of-requires
pool_of-requires c = omega (arith, c.requires.pool_len, registers_most)

pub assign-requires : goal.assign-requires
assign-requires c = record { fits = c.requires.fits; lent = c.requires.lent; pool_value = c.pool_of.ensures ∙ ap pool_of c.requires.pool_len }
