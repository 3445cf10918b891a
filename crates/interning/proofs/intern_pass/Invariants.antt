-- The blocks from b on are left.
use Rattle.interning.specs.Asked.{asked_by, rows_by}
use Rattle.interning.specs.Interning.{intern_all}
use Rattle.interning.proofs.Passes.{BlocksLeft}
use Rattle.interning.proofs.intern_pass.Given as goal

abbrev pub invariant-loop-b : goal.invariant-loop-b
invariant-loop-b l = BlocksLeft (intern_all (asked_by l.asked) l.ws) (rows_by l.asked l.ws) l.ws l.b-end l.initial.globals l.initial.f l.b l.globals l.f
