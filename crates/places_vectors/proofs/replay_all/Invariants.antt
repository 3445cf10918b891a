-- Sums in range, by the bounds that the loop keeps.
use Prim.Native.Nat.{◌≤◌, ◌*◌}
use Rattle.places_vectors.proofs.replay_all.Given as goal

abbrev pub invariant-loop-i : goal.invariant-loop-i
invariant-loop-i l = (l.values ≤ 512 * l.i) × (l.differ ≤ l.i)
