-- So many are left.
use Rattle.tables.proofs.Switches.{same_turn, same_end}
use Rattle.tables.proofs.put_targets.Goals as goal

pub loop-preserved : goal.loop-preserved
loop-preserved c = same_turn c.args.x c.args.n c.loop.counter c.loop-test.true c.loop.invariant c.push-f.ensures

pub returns : goal.returns
returns c = same_end c.args.x c.args.n c.loop.counter c.loop-test.false c.loop.invariant
