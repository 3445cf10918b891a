-- The pushes, then the shuffle.
use Rattle.base.proofs.Pens.{then}
use Rattle.calls.proofs.put_before.Goals as goal

pub returns : goal.returns
returns c =
    λ l. then (c.put_pushes-pushed.ensures l) (c.put_shuffle.ensures l)
