-- What is left to ask from j on: each turn passes one row.
use mathlib.Core.Path.{sym, ◌∙◌}
use Prim.Native.Nat.{ℕ}
use Rattle.rows.specs.Rows.{instr_rows}
use Rattle.assign.specs.Fits.{rows_placed}
use Rattle.assign.proofs.Runs.{left_all}
use Rattle.walk.proofs.Placed.{instrs_go, instrs_fail, instrs_done}
use Rattle.walk.proofs.instrs_placed.Goals as goal

pub loop-j-init : goal.loop-j-init
loop-j-init c = let a = c.args in
    left_all (λ (i k : ℕ). rows_placed a.map.now a.ws.now (instr_rows i k)) a.first a.n

pub returns-then-not-maybe_placed : goal.returns-then-not-maybe_placed
returns-then-not-maybe_placed c = let a = c.args in
    sym (instrs_fail a.map.now a.ws.now a.first c.loop-j.j a.n c.loop-j-test.true (sym (rw c.instr_field-d.ensures at c.maybe_placed.ensures) ∙ c.if-not-maybe_placed.true))
    ∙ c.loop-j.invariant

pub loop-j-preserved : goal.loop-j-preserved
loop-j-preserved c = let a = c.args in
    sym (instrs_go a.map.now a.ws.now a.first c.loop-j.j a.n c.loop-j-test.true (sym (rw c.instr_field-d.ensures at c.maybe_placed.ensures) ∙ c.if-not-maybe_placed.false))
    ∙ c.loop-j.invariant

pub returns : goal.returns
returns c = let a = c.args in
    sym (instrs_done a.map.now a.ws.now a.first c.loop-j.j a.n c.loop-j-test.false) ∙ c.loop-j.invariant
