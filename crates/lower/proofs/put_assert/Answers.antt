-- The op's register is that of the definition.
use mathlib.Core.Path.{refl}
use Rattle.op.specs.Words.{word}
use Rattle.op.specs.Ops.{assert}
use Rattle.lower.specs.Instructions.{lower_assert}
use Rattle.lower.proofs.Operands.{from_one}
use Rattle.lower.proofs.put_assert.Goals as goal

pub returns : goal.returns
unfolding lower_assert
returns c =
    λ l.
    from_one _ _ _ (λ d s. word (assert s)) refl c.operand_reg-c.ensures c.assert.ensures
    (c.put_from.ensures l)
