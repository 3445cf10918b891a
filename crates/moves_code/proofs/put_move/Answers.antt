-- One law for each kind of move, over what `put` ensures of each op.
use Rattle.moves_code.proofs.Emitting.{reg_to_reg, reg_to_slot, slot_to_reg, slot_to_slot}
use Rattle.moves_code.proofs.put_move.Goals as goal

pub returns-then-d-lt256 : goal.returns-then-d-lt256
returns-then-d-lt256 c =
    λ l. reg_to_reg _ _ _ c.if-s-lt256.true c.if-d-lt256.true c.mov.ensures (c.put.ensures l)

pub returns-else-d-lt256 : goal.returns-else-d-lt256
returns-else-d-lt256 c =
    λ l. reg_to_slot _ _ _ c.if-s-lt256.true c.if-d-lt256.false c.store_slot.ensures (c.put-else-d-lt256.ensures l)

pub returns-then-d-lt256-2 : goal.returns-then-d-lt256-2
returns-then-d-lt256-2 c =
    λ l. slot_to_reg _ _ _ c.if-s-lt256.false c.if-d-lt256-2.true c.load_slot.ensures (c.put-then-d-lt256-2.ensures l)

pub returns-else-d-lt256-2 : goal.returns-else-d-lt256-2
returns-else-d-lt256-2 c =
    λ l.
    slot_to_slot _ _ _ c.if-s-lt256.false c.if-d-lt256-2.false c.tmp-tmp.ensures c.load_slot-else-d-lt256-2.ensures
    c.store_slot-else-d-lt256-2.ensures (c.put-q.ensures l) (c.put-else-d-lt256-2.ensures l)
