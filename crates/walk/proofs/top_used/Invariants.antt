-- The search goes down from 64 as the definition does.
use Rattle.std.proofs.Common.{◌≡◌, get_or}
use Rattle.assign.specs.Walk.{used_below}
use Rattle.walk.proofs.top_used.Given as goal

abbrev pub invariant-loop-r : goal.invariant-loop-r
invariant-loop-r l = used_below (get_or l.fn.s.used 0 0) l.r ≡ used_below (get_or l.fn.s.used 0 0) 64
