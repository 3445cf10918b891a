-- The definition makes the same test on the bit. Assumes nothing.
use borrow.Author.Tests.{eq-eqb, ne_eqb}
use Rattle.op.specs.Words.{may_be}
use Rattle.op.proofs.may_be.Goals as goal

pub returns-then-bit-ne0 : goal.returns-then-bit-ne0
unfolding may_be
returns-then-bit-ne0 c = simp (ne_eqb _ _ c.if-bit-ne0.true)

pub returns-else-bit-ne0 : goal.returns-else-bit-ne0
unfolding may_be
returns-else-bit-ne0 c = simp (eq-eqb _ _ c.if-bit-ne0.false)
