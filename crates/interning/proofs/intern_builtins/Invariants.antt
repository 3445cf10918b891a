-- The blocks from b on are left.
use Rattle.interning.specs.Interning.{intern_builtins, row_builtins}
use Rattle.interning.proofs.Passes.{BlocksLeft}
use Rattle.interning.proofs.intern_builtins.Given as goal

abbrev pub invariant-loop-b : goal.invariant-loop-b
invariant-loop-b l = BlocksLeft intern_builtins (row_builtins l.ws) l.ws l.b-end l.initial.builtins l.initial.f l.b l.builtins l.f
