-- With room, the two stores are what the pen's law asks; without, the buffers stay.
use Rattle.base.proofs.Pens.{lowers_emit, lowers_over}
use Rattle.base.proofs.put.Goals as goal

pub returns-then-p : goal.returns-then-p
returns-then-p c =
    λ l. lowers_emit c.args.w c.args.p _ _ l _ _ c.if-p.true c.set.ensures c.set-then-p.ensures

pub returns-else-p : goal.returns-else-p
returns-else-p c = λ l. lowers_over c.args.w c.args.p _ _ l c.if-p.false
