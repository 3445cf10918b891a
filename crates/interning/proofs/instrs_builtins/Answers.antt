-- The instructions from the i-th on are left.
use native.Mathlib.Omega.{arith}
use Rattle.interning.specs.Interning.{row_builtins}
use Rattle.interning.proofs.Passes.{instrs_start, instrs_turn, instrs_end}
use Rattle.interning.proofs.Interned.{builtins_in_turn}
use Rattle.interning.proofs.instrs_builtins.Goals as goal

pub loop-i-init : goal.loop-i-init
loop-i-init c =
    let a = c.args in
    instrs_start builtins_in_turn (row_builtins a.ws.now) a.first a.n _ _

pub loop-i-preserved : goal.loop-i-preserved
loop-i-preserved c =
    let a = c.args in
    instrs_turn builtins_in_turn (row_builtins a.ws.now) a.first a.n c.loop-i.i (omega arith) c.loop-i-test.true c.loop-i.invariant c.intern_sys-f.ensures

pub returns : goal.returns
returns c =
    let a = c.args in
    instrs_end builtins_in_turn (row_builtins a.ws.now) a.first a.n c.loop-i.i c.loop-i-test.false c.loop-i.invariant
