-- The op's registers are those of the definition.
use Rattle.op.specs.Words.{word}
use Rattle.lower.specs.Instructions.{cast_op, lower_cast}
use Rattle.lower.proofs.Operands.{from_one}
use Rattle.lower.proofs.put_cast.Goals as goal

pub returns : goal.returns
unfolding lower_cast
returns c =
    λ l.
    from_one _ _ _ (λ d s. word (cast_op c.args.to c.args.from d s)) c.dest_reg.ensures c.operand_reg-s.ensures
    c.cast_word.ensures (c.put_from.ensures l)
