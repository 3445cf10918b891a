-- The instructions from the i-th on are left.
use Rattle.interning.specs.Asked.{asked_by, rows_by}
use Rattle.interning.specs.Interning.{intern_all}
use Rattle.interning.proofs.Passes.{InstrsLeft}
use Rattle.interning.proofs.intern_instrs.Given as goal

abbrev pub invariant-loop-i : goal.invariant-loop-i
invariant-loop-i l = InstrsLeft (intern_all (asked_by l.asked) l.ws) (rows_by l.asked l.ws) l.first l.n l.initial.globals l.initial.f l.i l.globals l.f
