-- The marks so far, and the rest of the active entries, give all marks.
use Rattle.std.proofs.Common.{◌≡◌, drop}
use Rattle.alloc_state.specs.Marks.{mark_all, entry_places}
use Rattle.alloc_state.proofs.mark_active.Given as goal

abbrev pub invariant-loop-e : goal.invariant-loop-e
invariant-loop-e l =
    mark_all l.pools l.fn.s.made (entry_places (drop l.e-index l.e-items)) l.m ≡ mark_all l.pools l.fn.s.made (entry_places l.e-items) l.initial.m
