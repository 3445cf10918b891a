-- What is left to store from i on: each turn stores one.
use mathlib.Core.Path.{◌≡◌}
use Prim.Native.Nat.{◌-◌}
use lib.Seq.{sets}
use Rattle.assign.specs.Walk.{pool_of}
use Rattle.walk.proofs.pool_of.Given as goal

abbrev pub invariant-loop-i : goal.invariant-loop-i
invariant-loop-i l = sets l.pool l.i (pool_of (l.n - l.i)) ≡ sets l.initial.pool 0 (pool_of l.n)
