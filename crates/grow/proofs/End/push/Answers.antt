-- With room, the store is what the law asks; without, the buffer stays.
use Rattle.grow.proofs.Growing.{grows_more, grows_over}
use Rattle.grow.proofs.End.push.Goals as goal

pub returns-then-self : goal.returns-then-self
returns-then-self g c =
    grows_more c.args.x c.args.self _ _ c.if-self.true c.set.ensures

pub returns-else-self : goal.returns-else-self
returns-else-self g c = grows_over c.args.x c.args.self _ c.if-self.false
