-- So many are left.
use Rattle.lookups.proofs.Lookups.{filled-turn, filled-end}
use Rattle.lookups.proofs.put_filled.Goals as goal

pub loop-preserved : goal.loop-preserved
loop-preserved c =
    let a = c.args in
    filled-turn a.kind a.payload a.n c.loop.counter c.loop-test.true c.loop.invariant c.push-g.ensures c.push-f.ensures

pub returns : goal.returns
returns c = filled-end c.args.kind c.args.payload c.args.n c.loop.counter c.loop-test.false c.loop.invariant
