-- The keys from the j-th on, with the least and the greatest rank so far, give those of all.
use Rattle.std.proofs.Common.{◌≤◌}
use Rattle.tables.proofs.Ranges.{RangeLeft}
use Rattle.tables.proofs.key_range.Given as goal

abbrev pub invariant-loop-j : goal.invariant-loop-j
invariant-loop-j l = record { fits : l.low ≤ 18446744073709551615; left : RangeLeft l.ws l.step l.first l.n l.low l.high l.j }
