-- Two operands, then the op.
use Rattle.op.specs.Words.{word}
use Rattle.op.specs.Ops.{store}
use Rattle.lower.specs.Instructions.{lower_store}
use Rattle.lower.proofs.Operands.{of_two}
use Rattle.lower.proofs.put_store_to.Goals as goal

pub returns : goal.returns
unfolding lower_store
returns c =
    λ l.
    of_two _ _ _ (λ s a. word (store a c.args.offset s)) c.operand_reg-s.ensures c.operand_reg-a.ensures
    c.store.ensures (c.put_fetch-q.ensures l) (c.put_fetch-r.ensures l) (c.put.ensures l)
