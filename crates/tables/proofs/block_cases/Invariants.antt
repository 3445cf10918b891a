-- The cases from the j-th on are left, each with a slot of the table.
use Rattle.fit.specs.Keys.{keys_at}
use Rattle.tables.proofs.Switches.{CasesLeft, PadsLeft}
use Rattle.tables.proofs.block_cases.Given as goal

abbrev pub invariant-loop-j : goal.invariant-loop-j
invariant-loop-j l = record {
  pads : PadsLeft l.vs.ws.now l.vs.map.now l.t.label l.edge l.n l.next l.j;
  cases : CasesLeft l.vs.ws.now l.vs.map.now (keys_at 1 l.c l.n) l.t.start l.t.label l.c l.edge l.n l.initial.targets l.t.end l.next l.j l.targets l.t.end;
}
