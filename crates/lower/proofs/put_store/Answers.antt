-- A register needs no op, a slot the one that `store_slot` makes.
use Rattle.lower.proofs.Operands.{stored-register, stored-slot}
use Rattle.lower.proofs.put_store.Goals as goal

pub returns-then-place-lt256 : goal.returns-then-place-lt256
returns-then-place-lt256 c = λ l. stored-register _ _ c.if-place-lt256.true

pub returns : goal.returns
returns c =
    λ l. stored-slot _ _ c.if-place-lt256.false (c.put.ensures l) c.tmp.ensures c.store_slot.ensures
