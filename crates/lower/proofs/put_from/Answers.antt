-- The operand, then the op and the slot's store.
use Rattle.base.proofs.Pens.{then}
use Rattle.lower.proofs.put_from.Goals as goal

pub returns : goal.returns
returns c = λ l. then (c.put_fetch-q.ensures l) (c.put_result.ensures l)
