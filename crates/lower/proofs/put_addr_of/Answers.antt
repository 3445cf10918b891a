-- The op's registers are those of the definition.
use Rattle.op.specs.Words.{word}
use Rattle.op.specs.Ops.{addr_of}
use Rattle.lower.specs.Instructions.{lower_addr_of}
use Rattle.lower.proofs.Operands.{from_one}
use Rattle.lower.proofs.put_addr_of.Goals as goal

pub returns : goal.returns
unfolding lower_addr_of
returns c =
    λ l.
    from_one _ _ _ (λ d s. word (addr_of d s c.args.offset)) c.dest_reg.ensures c.operand_reg-a.ensures
    c.addr_of.ensures (c.put_from.ensures l)
