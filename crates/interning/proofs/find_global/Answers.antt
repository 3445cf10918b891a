-- The constants from the i-th on decide which it is.
use mathlib.Core.Path.{sym, ◌∙◌}
use Rattle.interning.proofs.Found.{global_start, global_here, global_on, global_end}
use Rattle.interning.proofs.find_global.Goals as goal

pub loop-i-init : goal.loop-i-init
loop-i-init c = global_start c.args.kind c.args.payload c.args.globals.now c.args.count

pub returns-then-is_same : goal.returns-then-is_same
returns-then-is_same c =
    let a = c.args in
    global_here a.kind a.payload a.globals.now a.count c.loop-i.i c.loop-i-test.true c.requires (sym c.is_same.ensures ∙ c.if-is_same.true) c.loop-i.invariant

pub loop-i-preserved : goal.loop-i-preserved
loop-i-preserved c =
    let a = c.args in
    global_on a.kind a.payload a.globals.now a.count c.loop-i.i c.loop-i-test.true c.requires (sym c.is_same.ensures ∙ c.if-is_same.false) c.loop-i.invariant

pub returns : goal.returns
returns c =
    let a = c.args in
    global_end a.kind a.payload a.globals.now a.count c.loop-i.i c.loop-i-test.false c.loop-i.auto.i-end c.loop-i.invariant
