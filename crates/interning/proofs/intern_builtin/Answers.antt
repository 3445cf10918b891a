-- What is found in the buffer is found in the list, where all of it found room; else nothing more is held.
use Rattle.interning.proofs.Found.{builtin_found, builtin_new}
use Rattle.interning.proofs.intern_builtin.Goals as goal

pub returns-then-found-e : goal.returns-then-found-e
returns-then-found-e c =
    let a = c.args in
    builtin_found a.x c.find_builtin-found.result a.e a.builtins.now (rw c.min-used.ensures at c.find_builtin-found.ensures) c.if-found-e.true

pub returns : goal.returns
returns c =
    let a = c.args in
    builtin_new a.x c.find_builtin-found.result a.e a.builtins.now (rw c.min-used.ensures at c.find_builtin-found.ensures) c.if-found-e.false c.push.ensures
