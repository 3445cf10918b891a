-- A register needs no op, a slot the one that `load_slot` makes.
use Rattle.lower.proofs.Operands.{fetched-register, fetched-slot}
use Rattle.lower.proofs.put_fetch.Goals as goal

pub returns-then-place-lt256 : goal.returns-then-place-lt256
returns-then-place-lt256 c = λ l. fetched-register _ _ c.if-place-lt256.true

pub returns : goal.returns
returns c =
    λ l.
    fetched-slot _ _ c.if-place-lt256.false (c.put.ensures l) c.spare_reg.ensures c.load_slot.ensures
