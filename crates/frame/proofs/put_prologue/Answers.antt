-- The pushes, and the pen that keeps the op before them.
use Rattle.frame.proofs.Saving.{lowers_entered}
use Rattle.frame.proofs.put_prologue.Goals as goal

pub returns : goal.returns
returns c = λ l. lowers_entered _ (c.put_pushes-q.ensures l)
