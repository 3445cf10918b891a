-- The instructions from the i-th on are left.
use Rattle.interning.specs.Interning.{intern_builtins, row_builtins}
use Rattle.interning.proofs.Passes.{InstrsLeft}
use Rattle.interning.proofs.instrs_builtins.Given as goal

abbrev pub invariant-loop-i : goal.invariant-loop-i
invariant-loop-i l = InstrsLeft intern_builtins (row_builtins l.ws) l.first l.n l.initial.builtins l.initial.f l.i l.builtins l.f
