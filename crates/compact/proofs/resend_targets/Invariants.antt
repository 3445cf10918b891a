-- The first entries are sent on: a turn sends one more.
use mathlib.Core.Path.{◌≡◌}
use mathlib.Core.List.{map}
use lib.ListN.{take}
use lib.Seq.{sets}
use Rattle.compact.specs.Steps.{sent_by}
use Rattle.compact.proofs.resend_targets.Given as goal

abbrev pub invariant-loop-t : goal.invariant-loop-t
invariant-loop-t l = l.targets ≡ sets l.initial.targets 0 (map (sent_by l.work) (take l.t-index l.initial.targets))
