-- What is left to define, over the table as it is, gives the whole: a turn defines one, or stops at it.
use Rattle.std.proofs.Common.{true, refl, ap, ◌∙◌}
use Rattle.rows.specs.Rows.{row_defs}
use Rattle.fit.specs.Tabled.{marks, Marks}
use Rattle.fit.proofs.Counts.{counted_start}
use Rattle.fit.proofs.Filling.{marks-counted, marks_go, marks-stop, marks-end}
use Rattle.fit.proofs.define_params.Goals as goal

pub loop-j-init : goal.loop-j-init
loop-j-init c =
    let a = c.args in
    let at = c.block_field-at in
    let n = c.block_field-n in
    let all = counted_start (marks-counted a.ws.now a.r at.result) n.result in
    (refl, ap (λ (f : Marks → Marks). f (marks a.table.now true)) all)

pub shape_of-table-then-not-define : goal.shape_of-table-then-not-define
shape_of-table-then-not-define c = c.define.auto.table ∙ c.loop-j.invariant.0

pub returns-then-not-define : goal.returns-then-not-define
unfolding row_defs
returns-then-not-define c =
    let a = c.args in
    let at = c.block_field-at in
    let n = c.block_field-n in
    let l = c.loop-j in
    let call = c.define in
    let test = c.loop-j-test in
    let v = c.pool_at-v in
    let d = rw (c.if-not-define.true, v.ensures) at call.ensures in
    rw (at.ensures, n.ensures) at
    (marks-stop a.ws.now a.r at.result n.result l.j l.table call.new.table _ test.true d l.invariant.1)

pub loop-j-preserved : goal.loop-j-preserved
loop-j-preserved c =
    let a = c.args in
    let at = c.block_field-at in
    let n = c.block_field-n in
    let l = c.loop-j in
    let call = c.define in
    let test = c.loop-j-test in
    let v = c.pool_at-v in
    let d = rw (c.if-not-define.false, v.ensures) at call.ensures in
    (call.auto.table ∙ l.invariant.0, marks_go a.ws.now a.r at.result n.result l.j l.table call.new.table _ test.true d l.invariant.1)

pub shape_of-table : goal.shape_of-table
shape_of-table c = c.loop-j.invariant.0

pub returns : goal.returns
unfolding row_defs
returns c =
    let a = c.args in
    let at = c.block_field-at in
    let n = c.block_field-n in
    let l = c.loop-j in
    rw (at.ensures, n.ensures) at
    (marks-end a.ws.now a.r at.result n.result l.j l.table l.table _ c.loop-j-test.false l.invariant.1)
