-- The op's registers are those of the definition.
use Rattle.op.specs.Words.{word}
use Rattle.op.specs.Ops.{bin_imm}
use Rattle.lower.specs.Instructions.{lower_bin_imm}
use Rattle.lower.proofs.Operands.{from_one}
use Rattle.lower.proofs.put_bin_imm.Goals as goal

pub returns : goal.returns
unfolding lower_bin_imm
returns c =
    λ l.
    from_one _ _ _ (λ d s. word (bin_imm c.args.operator d s c.args.imm)) c.dest_reg.ensures c.operand_reg-left.ensures
    c.bin_imm.ensures (c.put_from.ensures l)
