-- So many are left.
use Rattle.lookups.proofs.Lookups.{FilledLeft}
use Rattle.lookups.proofs.put_filled.Given as goal

abbrev pub invariant-loop : goal.invariant-loop
invariant-loop l = FilledLeft l.kind l.payload l.n l.initial.values l.initial.f l.counter l.values l.f
