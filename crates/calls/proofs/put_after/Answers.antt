-- The result moved, the pops, the store.
use Rattle.base.proofs.Pens.{then, renamed}
use Rattle.calls.proofs.put_after.Goals as goal

pub returns : goal.returns
returns c =
    λ l. renamed (then (then (c.put-moved.ensures l) (c.put_pops_back-popped.ensures l)) (c.put_store.ensures l)) (λ q. rw (c.mov.ensures, c.dest_reg.ensures))
