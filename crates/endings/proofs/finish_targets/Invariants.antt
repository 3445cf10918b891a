-- Turn by turn a slot that is a label becomes its pc.
use Rattle.endings.proofs.Relabels.{Relabels}
use Rattle.endings.proofs.finish_targets.Given as goal

abbrev pub invariant-loop-i : goal.invariant-loop-i
invariant-loop-i l = Relabels l.labels l.initial.targets l.from l.end l.i l.targets
