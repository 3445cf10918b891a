-- The op's registers are those of the definition: the second one is decided after the first operand is there.
use Rattle.op.specs.Words.{word}
use Rattle.op.specs.Ops.{bin}
use Rattle.lower.specs.Instructions.{lower_bin}
use Rattle.lower.proofs.Operands.{from_two}
use Rattle.lower.proofs.put_bin.Goals as goal

pub returns : goal.returns
unfolding lower_bin
returns c =
    λ l.
    from_two _ _ _ _ (λ d s t. word (bin c.args.operator d s t)) c.dest_reg.ensures c.operand_reg-left.ensures
    c.operand_reg-right.ensures c.bin.ensures (c.put_fetch-q.ensures l) (c.put_from.ensures l)
