-- What is left to ask from block b on: each turn passes one block.
use mathlib.Core.Path.{sym, ap, ◌∙◌}
use native.Mathlib.Omega.{arith}
use Rattle.assign.specs.Fits.{rows_placed}
use Rattle.walk.proofs.Rows.{from_all}
use Rattle.walk.proofs.Placed.{blocks_go, blocks_fail, blocks-done}
use Rattle.walk.proofs.all_placed.Goals as goal

pub loop-b-init : goal.loop-b-init
loop-b-init c = ap (rows_placed c.args.map.now c.args.ws.now) (from_all c.args.ws.now c.head_field-n.result)

pub block_placed-requires : goal.block_placed-requires
block_placed-requires c = record { b_bound = omega (arith, c.loop-b-test.true, c.head_field-n.ensures); fits = c.requires }

pub returns-then-not-block_placed : goal.returns-then-not-block_placed
returns-then-not-block_placed c = let a = c.args in
    rw (sym c.head_field-n.ensures)
    (sym (blocks_fail a.map.now a.ws.now c.loop-b.b c.head_field-n.result c.loop-b-test.true (sym c.block_placed.ensures ∙ c.if-not-block_placed.true))
    ∙ c.loop-b.invariant)

pub loop-b-preserved : goal.loop-b-preserved
loop-b-preserved c = let a = c.args in
    sym (blocks_go a.map.now a.ws.now c.loop-b.b c.head_field-n.result c.loop-b-test.true (sym c.block_placed.ensures ∙ c.if-not-block_placed.false))
    ∙ c.loop-b.invariant

pub returns : goal.returns
returns c = let a = c.args in
    rw (sym c.head_field-n.ensures)
    (sym (blocks-done a.map.now a.ws.now c.loop-b.b c.head_field-n.result c.loop-b-test.false) ∙ c.loop-b.invariant)
