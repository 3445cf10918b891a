-- N is at least 22.
use native.Mathlib.Omega.{arith}
use Rattle.place.proofs.Registers.{registers-least}
use Rattle.shape.proofs.most_arguments.Goals as goal

pub overflow_sub-result : goal.overflow_sub-result
overflow_sub-result c = omega (arith, c.register_count.ensures, registers-least)
