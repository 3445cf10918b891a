-- The call by its limit and its op.
use Rattle.place.specs.Registers.{registers}
use Rattle.calls.proofs.Calling.{call_function}
use Rattle.calls.proofs.put_call.Goals as goal

pub returns : goal.returns
returns c =
    let a = c.args in
    let k = a.call in
    λ l. call_function registers k.operands.vs.ws.now k.operands.vs.map.now k.noted k.operands.at k.operands.count k.dst a.f c.called_as-called.ensures c.max-limit.ensures
    (c.put_with.ensures l)
