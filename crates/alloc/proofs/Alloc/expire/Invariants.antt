-- After i turns the state is `state_at`, the kept entries in front and what went released.
use Rattle.std.proofs.Common.{◌≡◌, length, take}
use Rattle.alloc.specs.Allocation.{kept_of}
use Rattle.alloc.proofs.Expiry.{state_at}
use Rattle.alloc.proofs.Alloc.expire.Given as goal

abbrev pub invariant-loop-i : goal.invariant-loop-i
invariant-loop-i l = record {
  kept : l.kept ≡ length (kept_of l.at (take l.i l.initial.self.active));
  state : l.self ≡ state_at l.at l.initial.self l.i;
}
