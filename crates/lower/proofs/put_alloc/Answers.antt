-- The op's register is that of the definition.
use Rattle.op.specs.Words.{word}
use Rattle.op.specs.Ops.{alloc}
use Rattle.lower.specs.Instructions.{lower_alloc}
use Rattle.lower.proofs.Operands.{from_none}
use Rattle.lower.proofs.put_alloc.Goals as goal

pub returns : goal.returns
unfolding lower_alloc
returns c =
    λ l.
    from_none _ _ (λ d. word (alloc d c.args.kind c.args.size c.args.align)) c.dest_reg.ensures
    c.alloc.ensures (c.put_result.ensures l)
