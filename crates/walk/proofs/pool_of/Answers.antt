-- What is left to store from i on: each turn stores one.
use mathlib.Core.Path.{refl, sym, ◌∙◌}
use Rattle.walk.proofs.Begin.{pool_all, pool-next, pool_last, pool-whole}
use Rattle.walk.proofs.pool_of.Goals as goal

pub loop-i-init : goal.loop-i-init
loop-i-init c = pool_all _ _

pub loop-i-preserved : goal.loop-i-preserved
loop-i-preserved c = let l = c.loop-i in sym (pool-next l.pool l.i _ c.loop-i-test.true) ∙ l.invariant

pub returns : goal.returns
returns c = let l = c.loop-i in sym (pool_last l.pool l.i _ c.loop-i-test.false) ∙ l.invariant ∙ pool-whole c.args.pool.now _ refl
