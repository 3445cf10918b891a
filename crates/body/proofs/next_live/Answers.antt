-- The first live block from j on is that from b on.
use mathlib.Core.Path.{sym, ◌∙◌}
use native.Mathlib.Omega.{arith}
use Rattle.body.proofs.Walks.{next-found, next_on, next_none}
use Rattle.body.proofs.next_live.Goals as goal

pub returns-then-block_field-eq0 : goal.returns-then-block_field-eq0
returns-then-block_field-eq0 c = next-found _ _ _ c.block_field.ensures c.loop-j-test.true c.if-block_field-eq0.true ∙ c.loop-j.invariant

pub loop-j-preserved : goal.loop-j-preserved
loop-j-preserved c = sym (next_on _ _ _ c.block_field.ensures c.loop-j-test.true c.if-block_field-eq0.false) ∙ c.loop-j.invariant

pub returns : goal.returns
returns c = next_none _ _ _ (omega (arith, c.loop-j.auto.j-end)) c.loop-j-test.false ∙ c.loop-j.invariant
