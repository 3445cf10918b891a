-- All are distinct where those from i on are, and none before i stands again.
use Rattle.std.proofs.Common.{◌≡◌, drop}
use Rattle.base.specs.Lists.{distinct}
use Rattle.moves_entry.proofs.distinct_ok.Given as goal

abbrev pub invariant-loop-i : goal.invariant-loop-i
invariant-loop-i l = distinct l.ps ≡ distinct (drop l.i l.ps)
