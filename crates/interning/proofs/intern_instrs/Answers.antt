-- The instructions from the i-th on are left.
use native.Mathlib.Omega.{arith}
use Rattle.interning.specs.Asked.{asked_by, rows_by}
use Rattle.interning.proofs.Passes.{instrs_start, instrs_turn, instrs_end}
use Rattle.interning.proofs.Interned.{constants_in_turn}
use Rattle.interning.proofs.intern_instrs.Goals as goal

pub loop-i-init : goal.loop-i-init
loop-i-init c =
    let a = c.args in
    instrs_start (constants_in_turn (asked_by a.asked) a.ws.now) (rows_by a.asked a.ws.now) a.first a.n _ _

pub loop-i-preserved : goal.loop-i-preserved
loop-i-preserved c =
    let a = c.args in
    instrs_turn (constants_in_turn (asked_by a.asked) a.ws.now) (rows_by a.asked a.ws.now) a.first a.n c.loop-i.i (omega arith) c.loop-i-test.true c.loop-i.invariant c.intern_instr-f.ensures

pub returns : goal.returns
returns c =
    let a = c.args in
    instrs_end (constants_in_turn (asked_by a.asked) a.ws.now) (rows_by a.asked a.ws.now) a.first a.n c.loop-i.i c.loop-i-test.false c.loop-i.invariant
