-- The first starts are sent on: a turn sends one more.
use mathlib.Core.Path.{◌≡◌}
use mathlib.Core.List.{map}
use lib.ListN.{take}
use lib.Seq.{sets}
use Rattle.compact.specs.Steps.{restarted_by}
use Rattle.compact.proofs.restart_all.Given as goal

abbrev pub invariant-loop-f : goal.invariant-loop-f
invariant-loop-f l = l.functions ≡ sets l.initial.functions 0 (map (restarted_by l.work) (take l.f-index l.initial.functions))
