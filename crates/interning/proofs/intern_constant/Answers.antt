-- What is found in the buffer is found in the list, where all of it found room; else nothing more is held.
use Prim.Native.Nat.{◌*◌, ◌/◌}
use native.Mathlib.Omega.{arith}
use Rattle.interning.proofs.Found.{global_few, intern-found, intern-new}
use Rattle.interning.proofs.intern_constant.Goals as goal

pub overflow_mul-found : goal.overflow_mul-found
overflow_mul-found c =
    let a = c.args in
    omega (arith, c.min-used.ensures, global_few a.kind a.payload (2 * (c.min-used.result / 2)) a.globals.now c.find_global-found.result c.find_global-found.ensures)

pub returns-then-found-e : goal.returns-then-found-e
returns-then-found-e c =
    let a = c.args in
    intern-found a.kind a.payload c.find_global-found.result a.e a.globals.now (rw c.min-used.ensures at c.find_global-found.ensures) c.if-found-e.true

pub returns : goal.returns
returns c =
    let a = c.args in
    intern-new a.kind a.payload c.find_global-found.result a.e a.globals.now (rw c.min-used.ensures at c.find_global-found.ensures) c.if-found-e.false
    c.push-f.ensures c.push.ensures
