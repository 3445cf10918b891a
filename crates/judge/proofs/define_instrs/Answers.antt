-- The invariant: what is left to define, over the table as it is, gives the whole.
use mathlib.Core.Path.{refl, ◌∙◌}
use Rattle.rows.specs.Rows.{row_defs}
use Rattle.rows.proofs.Every.{over_instrs_start, over_instrs, over_instrs_end}
use Rattle.judge.proofs.Fills.{fill_go, fill_stop, fill_none}
use Rattle.judge.proofs.define_instrs.Goals as goal

pub loop-j-init : goal.loop-j-init
loop-j-init c =
    let a = c.args in
    (refl, rw (over_instrs_start (row_defs a.ws.now) a.r a.first a.n))

pub shape_of-table-then-not-define_instr : goal.shape_of-table-then-not-define_instr
shape_of-table-then-not-define_instr c = c.define_instr.auto.table ∙ c.loop-j.invariant.0

pub returns-then-not-define_instr : goal.returns-then-not-define_instr
returns-then-not-define_instr c =
    let a = c.args in
    let l = c.loop-j in
    let call = c.define_instr in
    fill_stop l.table call.new.table _ _ _ (rw (c.if-not-define_instr.true) at call.ensures)
    (rw (over_instrs (row_defs a.ws.now) a.r a.first a.n l.j c.loop-j-test.true) at l.invariant.1)

pub loop-j-preserved : goal.loop-j-preserved
loop-j-preserved c =
    let a = c.args in
    let l = c.loop-j in
    let call = c.define_instr in (
      call.auto.table ∙ l.invariant.0,
      fill_go l.table call.new.table _ _ _ (rw (c.if-not-define_instr.false) at call.ensures)
          (rw (over_instrs (row_defs a.ws.now) a.r a.first a.n l.j c.loop-j-test.true) at l.invariant.1),
    )

pub shape_of-table : goal.shape_of-table
shape_of-table c = c.loop-j.invariant.0

pub returns : goal.returns
returns c =
    let a = c.args in
    let l = c.loop-j in
    fill_none l.table _ _ (over_instrs_end (row_defs a.ws.now) a.r a.first a.n l.j c.loop-j-test.false) l.invariant.1
