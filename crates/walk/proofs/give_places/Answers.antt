-- N - 2 registers fit an array of 64.
use mathlib.Core.Path.{refl}
use native.Mathlib.Omega.{arith}
use Rattle.place.specs.Registers.{registers}
use Rattle.place.proofs.Registers.{registers-least, registers_most}
use Rattle.walk.proofs.Begin.{pool-room}
use Rattle.walk.proofs.give_places.Goals as goal

pub overflow_sub-n : goal.overflow_sub-n
overflow_sub-n c = omega (arith, c.register_count.ensures, registers-least)

pub slice_bounds-pool-end : goal.slice_bounds-pool-end
slice_bounds-pool-end c = omega (arith, c.register_count.ensures, registers_most)

pub with_pool-requires : goal.with_pool-requires
with_pool-requires c = record { fits = c.requires.fits; lent = c.requires.lent; pool_len = pool-room registers _ _ c.register_count.ensures registers-least registers_most refl }
