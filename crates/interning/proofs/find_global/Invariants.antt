-- The constants from the i-th on decide which it is.
use Rattle.interning.proofs.Found.{GlobalLeft}
use Rattle.interning.proofs.find_global.Given as goal

abbrev pub invariant-loop-i : goal.invariant-loop-i
invariant-loop-i l = GlobalLeft l.kind l.payload l.globals l.count l.i
