-- The op, then the slot's store.
use Rattle.base.proofs.Pens.{then}
use Rattle.lower.proofs.put_result.Goals as goal

pub returns : goal.returns
returns c = λ l. then (c.put-q.ensures l) (c.put_store.ensures l)
