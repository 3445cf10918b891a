-- The op's registers are those of the definition.
use Rattle.op.specs.Words.{word}
use Rattle.op.specs.Ops.{load}
use Rattle.lower.specs.Instructions.{lower_load}
use Rattle.lower.proofs.Operands.{from_one}
use Rattle.lower.proofs.put_load.Goals as goal

pub returns : goal.returns
unfolding lower_load
returns c =
    λ l.
    from_one _ _ _ (λ d s. word (load d s c.args.offset)) c.dest_reg.ensures c.operand_reg-a.ensures
    c.load.ensures (c.put_from.ensures l)
