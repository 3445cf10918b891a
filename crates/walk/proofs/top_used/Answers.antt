-- The search goes down from 64 as the definition does.
use Rattle.std.proofs.Common.{◌≡◌, ◌+◌, ◌-◌, sym, ◌∙◌, arith}
use Rattle.walk.proofs.Placed.{used_hit, used_turn, used_end}
use Rattle.walk.proofs.top_used.Goals as goal

pub returns-then-has : goal.returns-then-has
returns-then-has c =
    let e : c.loop-r.r - 1 + 1 ≡ c.loop-r.r = omega arith in
    e ∙ sym (used_hit _ c.loop-r.r c.loop-r-test.true (sym c.has.ensures ∙ c.if-has.true)) ∙ c.loop-r.invariant

pub loop-r-preserved : goal.loop-r-preserved
loop-r-preserved c = sym (used_turn _ c.loop-r.r c.loop-r-test.true (sym c.has.ensures ∙ c.if-has.false)) ∙ c.loop-r.invariant

pub returns : goal.returns
returns c = sym (used_end _ c.loop-r.r c.loop-r-test.false) ∙ c.loop-r.invariant
