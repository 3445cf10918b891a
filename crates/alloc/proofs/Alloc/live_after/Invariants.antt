-- The mask so far, and the rest of the active entries, give the whole mask.
use Rattle.std.proofs.Common.{◌≡◌, drop}
use Rattle.alloc.specs.Allocation.{live_after}
use Rattle.alloc.proofs.Alloc.live_after.Given as goal

abbrev pub invariant-loop-e : goal.invariant-loop-e
invariant-loop-e l = live_after l.class l.row (drop l.e-index l.e-items) l.m ≡ live_after l.class l.row l.e-items 0
