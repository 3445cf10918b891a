-- The table so far holds where each pc below is sent, and `next` is where this one is sent.
use mathlib.Core.Path.{◌≡◌}
use Prim.Native.Nat.{ℕ, ◌<◌}
use lib.ListN.{get_or}
use Rattle.compact.specs.Compaction.{sent}
use Rattle.compact.proofs.remap.Given as goal

abbrev pub invariant-loop-pc : goal.invariant-loop-pc
invariant-loop-pc l = record {
  next_is : l.next ≡ sent l.ops l.pc;
  has : (k : ℕ) → k < l.pc → get_or l.work k 0 ≡ sent l.ops k;
}
