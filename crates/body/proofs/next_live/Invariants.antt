-- The first live block from j on is that from b on.
use mathlib.Core.Path.{◌≡◌}
use Prim.Native.Nat.{◌+◌, ◌-◌}
use Rattle.body.specs.Body.{next_live}
use Rattle.body.proofs.next_live.Given as goal

abbrev pub invariant-loop-j : goal.invariant-loop-j
invariant-loop-j l = next_live l.ws l.j (l.b + l.k - l.j) ≡ next_live l.ws l.b l.k
