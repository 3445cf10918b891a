-- So many are left.
use Rattle.tables.proofs.Switches.{SameLeft}
use Rattle.tables.proofs.put_targets.Given as goal

abbrev pub invariant-loop : goal.invariant-loop
invariant-loop l = SameLeft l.x l.n l.initial.targets l.initial.f l.counter l.targets l.f
