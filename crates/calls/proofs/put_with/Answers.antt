-- What stands before the op that calls, that op, and what stands after it.
use Rattle.place.specs.Registers.{registers}
use Rattle.input.specs.Layout.{list_at}
use Rattle.calls.proofs.Calling.{call-whole}
use Rattle.calls.proofs.put_with.Goals as goal

pub returns : goal.returns
returns c =
    let k = c.args.call in
    λ l. call-whole registers k.operands.vs.map.now _ (list_at k.operands.vs.ws.now k.operands.at k.operands.count) _ _ c.pushes_of-k.ensures.1 (c.put_before-ready.ensures l)
    (c.put-back.ensures l) (c.put_after.ensures l)
