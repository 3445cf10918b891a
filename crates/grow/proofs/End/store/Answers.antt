-- Before the end the store is what the law asks; from the end on there is none.
use Rattle.grow.proofs.Growing.{grows_store, grows_past}
use Rattle.grow.proofs.End.store.Goals as goal

pub returns-then-i-self : goal.returns-then-i-self
returns-then-i-self g c =
    grows_store c.args.i c.args.x c.args.self _ _ c.if-i-self.true c.set.ensures

pub returns-else-i-self : goal.returns-else-i-self
returns-else-i-self g c =
    grows_past c.args.i c.args.x c.args.self _ c.if-i-self.false
