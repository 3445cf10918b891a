-- The columns hold the first i of the list.
use Rattle.moves_entry.proofs.Gathering.{Gathered}
use Rattle.moves_entry.proofs.gather.Given as goal

abbrev pub invariant-loop-i : goal.invariant-loop-i
invariant-loop-i l = Gathered l.list l.i l.c
