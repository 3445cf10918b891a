-- The store of the pen's place is what the law of `bind` asks.
use Rattle.base.proofs.Pens.{lowers_bind}
use Rattle.base.proofs.bind_label.Goals as goal

pub returns : goal.returns
returns c =
    λ o b. lowers_bind c.args.n c.args.p o b _ _ c.set.ensures
