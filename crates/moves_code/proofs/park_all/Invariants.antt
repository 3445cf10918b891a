-- What stands, with the rest from the turn on parked, is the whole parked.
use mathlib.Core.Path.{◌≡◌}
use mathlib.Core.List.{◌++◌}
use lib.ListN.{take, drop}
use Rattle.moves.specs.Moves.{park}
use Rattle.moves_code.proofs.park_all.Given as goal

abbrev pub invariant-loop-s : goal.invariant-loop-s
invariant-loop-s l = take l.s-index l.s-items ++ park l.x l.sc (drop l.s-index l.s-items) ≡ park l.x l.sc l.initial.s-items
