-- What is left to store gives the whole.
use Rattle.replay.proofs.Loading.{store-turn, store-end}
use Rattle.replay.proofs.load.Goals as goal

pub loop-i-preserved : goal.loop-i-preserved
loop-i-preserved g c = store-turn c.loop-i.invariant c.loop-i-test.true c.read.ensures c.set.ensures

pub returns : goal.returns
returns g c = store-end c.loop-i.invariant c.loop-i-test.false
