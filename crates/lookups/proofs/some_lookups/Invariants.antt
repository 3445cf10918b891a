-- The instructions from the i-th on are left; each table has at most 4,096 slots.
use Rattle.lookups.proofs.Lookups.{InstrsLeft, SlotsLeft}
use Rattle.lookups.proofs.some_lookups.Given as goal

abbrev pub invariant-loop-i : goal.invariant-loop-i
invariant-loop-i l = record {
  slots : SlotsLeft l.ws l.initial.u.start l.first l.n l.u.start l.i;
  left : InstrsLeft l.part l.ws l.initial.u.start l.first l.n l.initial.list l.initial.u.end l.u.start l.i l.list l.u.end;
}
