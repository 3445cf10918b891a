-- The functions from k on are left, and none of them is unfit.
use mathlib.Core.Path.{◌≡◌}
use lib.ListN.{length, drop}
use Rattle.place.specs.Registers.{registers}
use Rattle.grow.proofs.Growing.{Left}
use Rattle.strings.specs.Strings.{functions_in, first_unfit, all_strings}
use Rattle.strings.proofs.intern_list.Given as goal

abbrev pub invariant-loop-end : goal.invariant-loop-end
invariant-loop-end l =
    (length l.globals ≡ length l.initial.globals)
    × ((first_unfit registers l.end-index (functions_in l.words l.from (drop l.end-index l.ends))).number ≡ 0)
    × Left (all_strings (functions_in l.words l.from (drop l.end-index l.ends))) (all_strings (functions_in l.words 0 l.ends)) l.initial.globals l.initial.f l.globals l.f
