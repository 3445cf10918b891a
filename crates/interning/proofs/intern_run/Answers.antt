-- The constants from c on are left.
use Rattle.interning.specs.Asked.{asked_by}
use Rattle.interning.proofs.Interned.{run_start, run-turn, run_end}
use Rattle.interning.proofs.intern_run.Goals as goal

pub loop-c-init : goal.loop-c-init
loop-c-init c =
    let a = c.args in
    run_start (asked_by a.asked) a.ws.now a.first a.n _ _

pub loop-c-preserved : goal.loop-c-preserved
loop-c-preserved c =
    let a = c.args in
    run-turn (asked_by a.asked) a.ws.now a.first a.n c.loop-c.c c.loop-c-test.true c.loop-c.invariant c.intern_one-f.ensures

pub returns : goal.returns
returns c =
    let a = c.args in
    run_end (asked_by a.asked) a.ws.now a.first a.n c.loop-c.c c.loop-c-test.false c.loop-c.invariant
