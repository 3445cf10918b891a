-- What is still to be filled gives the whole: a turn stores one, and past the end nothing is left.
use mathlib.Core.Path.{◌≡◌}
use Rattle.base.specs.Buffers.{filled_from}
use Rattle.base.proofs.fill_from.Given as goal

abbrev pub invariant-loop-i : goal.invariant-loop-i
invariant-loop-i g l = filled_from l.a l.i l.x ≡ filled_from l.initial.a l.from l.x
