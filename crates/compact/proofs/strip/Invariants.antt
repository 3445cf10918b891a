-- The first r ops and spans are brought down: a turn brings one more.
use Rattle.compact.specs.Steps.{Stripped}
use Rattle.compact.proofs.strip.Given as goal

abbrev pub invariant-loop-r : goal.invariant-loop-r
invariant-loop-r l = Stripped l.work l.r l.initial.ops l.initial.spans l.w l.ops l.spans
