-- The shuffle, then Tail, or the op that calls and Ret.
use Rattle.place.specs.Registers.{registers}
use Rattle.calls.proofs.Calling.{tail_taken, tail-called}
use Rattle.calls.proofs.put_tail.Goals as goal

pub returns-then-takes_over : goal.returns-then-takes_over
returns-then-takes_over c =
    let a = c.args in
    λ l. tail_taken registers a.a.vs.ws.now a.a.vs.map.now a.a.at a.a.count a.f (c.put_shuffle-ready.ensures l) c.takes_over.ensures c.if-takes_over.true
    c.number_of.ensures c.tail.ensures (c.put.ensures l)

pub returns : goal.returns
returns c =
    let a = c.args in
    λ l. tail-called registers a.a.vs.ws.now a.a.vs.map.now a.a.at a.a.count a.f (c.put_shuffle-ready.ensures l) c.takes_over.ensures c.if-takes_over.false
    c.called_as.ensures c.ret.ensures (c.put-called.ensures l) (c.put-2.ensures l)
