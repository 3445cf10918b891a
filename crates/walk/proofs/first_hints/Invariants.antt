-- What is left to store from v on: each turn stores one.
use mathlib.Core.Path.{◌≡◌}
use Prim.Native.Nat.{◌-◌}
use lib.Seq.{sets}
use Rattle.assign.specs.Walk.{first_hints}
use Rattle.walk.proofs.first_hints.Given as goal

abbrev pub invariant-loop-v : goal.invariant-loop-v
invariant-loop-v l = sets l.wish l.v (first_hints l.ws l.v (l.n - l.v)) ≡ sets l.initial.wish 0 (first_hints l.ws 0 l.n)
