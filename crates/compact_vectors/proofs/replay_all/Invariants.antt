-- Sums in range, by the bounds that the loop keeps.
use Prim.Native.Nat.{◌≤◌, ◌<◌}
use Rattle.compact_vectors.proofs.replay_all.Given as goal

abbrev pub invariant-loop-i : goal.invariant-loop-i
invariant-loop-i l = (l.differ ≤ l.i) × (l.total < 1000000000)
