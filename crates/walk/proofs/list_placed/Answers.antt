-- What is left to ask from j on: each turn passes one value.
use mathlib.Core.Path.{sym, ◌∙◌}
use Prim.Native.Nat.{ℕ}
use Rattle.input.specs.Layout.{list_at}
use Rattle.rows.specs.Rows.{refs}
use Rattle.assign.specs.Walk.{all_placed}
use Rattle.assign.proofs.Runs.{left_all}
use Rattle.walk.proofs.Placed.{list_goes, list_fails, list_done}
use Rattle.walk.proofs.list_placed.Goals as goal

pub loop-j-init : goal.loop-j-init
loop-j-init c = let a = c.args in
    left_all (λ (i k : ℕ). all_placed a.map.now (refs 0 (list_at a.ws.now i k))) a.at a.n

pub returns-then-get_or-eq0 : goal.returns-then-get_or-eq0
returns-then-get_or-eq0 c = let a = c.args in
    sym (list_fails a.map.now a.ws.now a.at c.loop-j.j a.n c.loop-j-test.true (sym (rw c.pool_at-v.ensures at c.get_or.ensures) ∙ c.if-get_or-eq0.true))
    ∙ c.loop-j.invariant

pub loop-j-preserved : goal.loop-j-preserved
loop-j-preserved c = let a = c.args in
    sym (list_goes a.map.now a.ws.now a.at c.loop-j.j a.n c.loop-j-test.true (λ e. c.if-get_or-eq0.false (rw c.pool_at-v.ensures at c.get_or.ensures ∙ e)))
    ∙ c.loop-j.invariant

pub returns : goal.returns
returns c = let a = c.args in
    sym (list_done a.map.now a.ws.now a.at c.loop-j.j a.n c.loop-j-test.false) ∙ c.loop-j.invariant
