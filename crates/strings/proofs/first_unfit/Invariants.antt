-- The first unfit function is among those from k on.
use mathlib.Core.Path.{◌≡◌}
use lib.ListN.{drop}
use Rattle.place.specs.Registers.{registers}
use Rattle.strings.specs.Strings.{functions_in, first_unfit}
use Rattle.strings.proofs.first_unfit.Given as goal

abbrev pub invariant-loop-k : goal.invariant-loop-k
invariant-loop-k l =
    first_unfit registers l.k (functions_in l.words l.from (drop l.k l.ends)) ≡ first_unfit registers 0 (functions_in l.words 0 l.ends)
