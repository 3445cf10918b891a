-- The mask so far, and the rest of the pool, give the whole mask.
use Rattle.std.proofs.Common.{◌≡◌, drop}
use Rattle.alloc.specs.State.{mask_of}
use Rattle.alloc.proofs.mask_of.Given as goal

abbrev pub invariant-loop-r : goal.invariant-loop-r
invariant-loop-r l = mask_of l.m (drop l.r-index l.pool) ≡ mask_of 0 l.pool
