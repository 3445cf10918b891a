-- The span, the pops and the Ret, one after the other.
use Rattle.base.proofs.Pens.{then, renamed}
use Rattle.frame.proofs.put_epilogue.Goals as goal

pub returns : goal.returns
returns c =
    λ l. renamed (then (then (c.at_span-q.ensures _ _ l) (c.put_pops_back-r.ensures l)) (c.put.ensures l))
    (λ q. rw c.ret.ensures)
