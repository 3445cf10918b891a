-- Turn by turn a slot that is a label becomes its pc.
use Rattle.endings.proofs.Relabels.{relabels_turn}
use Rattle.endings.proofs.finish_targets.Goals as goal

pub loop-i-preserved : goal.loop-i-preserved
loop-i-preserved c = let a = c.args in
    let s = c.loop-i in
    relabels_turn a.labels.now a.targets.now a.from a.end s.i s.targets _ s.invariant c.loop-i-test.true c.get_or.ensures
