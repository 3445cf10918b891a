-- The call by its limit and its op.
use native.Mathlib.Omega.{arith}
use Rattle.place.specs.Registers.{registers}
use Rattle.calls.proofs.Calling.{call_builtin}
use Rattle.calls.proofs.put_sys.Goals as goal

pub returns : goal.returns
returns c =
    let a = c.args in
    let k = a.call in
    λ l. call_builtin registers k.operands.vs.ws.now k.operands.vs.map.now k.noted k.operands.at k.operands.count k.dst a.number c.sys-called.ensures (omega (arith, c.max.ensures))
    (c.put_with.ensures l)
