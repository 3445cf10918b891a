-- The constants from c on are left.
use Rattle.interning.specs.Asked.{asked_by}
use Rattle.interning.proofs.Interned.{RunLeft}
use Rattle.interning.proofs.intern_run.Given as goal

abbrev pub invariant-loop-c : goal.invariant-loop-c
invariant-loop-c l = RunLeft (asked_by l.asked) l.ws l.first l.n l.initial.globals l.initial.f l.c l.globals l.f
