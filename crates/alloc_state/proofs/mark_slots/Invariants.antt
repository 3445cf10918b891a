-- The marks so far, and the rest of the free slots, give all marks.
use Rattle.std.proofs.Common.{◌≡◌, drop}
use Rattle.alloc_state.specs.Marks.{mark_all, slot_places}
use Rattle.alloc_state.proofs.mark_slots.Given as goal

abbrev pub invariant-loop-k : goal.invariant-loop-k
invariant-loop-k l =
    mark_all l.pools l.fn.s.made (slot_places (drop l.k-index l.k-items)) l.m ≡ mark_all l.pools l.fn.s.made (slot_places l.k-items) l.initial.m
