-- The invariant: r rows stand before block b, and what is left to define, over the table as it is, gives the whole.
use mathlib.Core.Path.{refl, ◌∙◌}
use native.Mathlib.Omega.{arith}
use Rattle.rows.specs.Rows.{row_defs}
use Rattle.rows.proofs.Every.{before-start, before-turn, before_fits, over-blocks-start, over-blocks, over-blocks-end}
use Rattle.judge.proofs.Fills.{fill_go, fill_stop, fill_none}
use Rattle.judge.proofs.define_all.Goals as goal

pub loop-b-init : goal.loop-b-init
loop-b-init c =
    let a = c.args in
    let end = c.head_field-b-end.result in
    (refl, before-start a.ws.now end, rw (over-blocks-start (row_defs a.ws.now) a.ws.now end))

pub define_block-requires : goal.define_block-requires
define_block-requires c =
    let a = c.args in
    let l = c.loop-b in
    let end = c.head_field-b-end in
    let f = before_fits a.ws.now end.result l.r l.b c.loop-b-test.true l.invariant.1 in
    let p = rw (← end.ensures) at c.requires.0 in
    (omega (arith, f, p), c.requires.1 l.b (rw (← end.ensures) c.loop-b-test.true))

pub shape_of-table-then-not-define_block : goal.shape_of-table-then-not-define_block
shape_of-table-then-not-define_block c = c.define_block.auto.table ∙ c.loop-b.invariant.0

pub returns-then-not-define_block : goal.returns-then-not-define_block
returns-then-not-define_block c =
    let a = c.args in
    let l = c.loop-b in
    let end = c.head_field-b-end in
    let call = c.define_block in
    rw (← end.ensures)
    (fill_stop l.table call.new.table _ _ _ (rw (c.if-not-define_block.true) at call.ensures)
    (rw (over-blocks (row_defs a.ws.now) a.ws.now end.result l.r l.b c.loop-b-test.true) at l.invariant.2))

pub rows_in-r-requires : goal.rows_in-r-requires
rows_in-r-requires c =
    let a = c.args in
    let l = c.loop-b in
    let end = c.head_field-b-end in
    let f = before_fits a.ws.now end.result l.r l.b c.loop-b-test.true l.invariant.1 in
    let p = rw (← end.ensures) at c.requires.0 in
    omega (arith, f, p)

pub overflow_add-r : goal.overflow_add-r
overflow_add-r c =
    let a = c.args in
    let l = c.loop-b in
    let end = c.head_field-b-end in
    let f = before_fits a.ws.now end.result l.r l.b c.loop-b-test.true l.invariant.1 in
    let p = rw (← end.ensures) at c.requires.0 in
    omega (arith, f, p, c.rows_in-r.ensures)

pub loop-b-preserved : goal.loop-b-preserved
loop-b-preserved c =
    let a = c.args in
    let l = c.loop-b in
    let end = c.head_field-b-end.result in
    let e = c.rows_in-r.ensures in
    let call = c.define_block in (
      call.auto.table ∙ l.invariant.0,
      rw e (before-turn a.ws.now end l.r l.b c.loop-b-test.true l.invariant.1),
      rw e
          (fill_go l.table call.new.table _ _ _ (rw (c.if-not-define_block.false) at call.ensures)
          (rw (over-blocks (row_defs a.ws.now) a.ws.now end l.r l.b c.loop-b-test.true) at l.invariant.2)),
    )

pub shape_of-table : goal.shape_of-table
shape_of-table c = c.loop-b.invariant.0

pub returns : goal.returns
returns c =
    let a = c.args in
    let l = c.loop-b in
    let end = c.head_field-b-end in
    rw (← end.ensures)
    (fill_none l.table _ _ (over-blocks-end (row_defs a.ws.now) a.ws.now end.result l.r l.b c.loop-b-test.false) l.invariant.2)
