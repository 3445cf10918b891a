-- The last free one is among the registers that are left.
use Rattle.std.proofs.Common.{◌≡◌}
use Rattle.alloc.specs.Allocation.{last_free}
use Rattle.alloc.proofs.last_free.Given as goal

abbrev pub invariant-loop-r : goal.invariant-loop-r
invariant-loop-r l = last_free l.m l.r-iterator.iter.rest.now ≡ last_free l.m l.pool
