-- The op's registers are those of the definition.
use Rattle.op.specs.Words.{word}
use Rattle.op.specs.Ops.{lookup}
use Rattle.lower.specs.Instructions.{lower_lookup}
use Rattle.lower.proofs.Operands.{from_one}
use Rattle.lower.proofs.put_lookup.Goals as goal

pub returns : goal.returns
unfolding lower_lookup
returns c =
    λ l.
    from_one _ _ _ (λ d s. word (lookup d s c.args.table)) c.dest_reg.ensures c.operand_reg-s.ensures
    c.lookup.ensures (c.put_from.ensures l)
