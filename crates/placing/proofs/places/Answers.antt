-- Whatever is left in the work room, it ends zero.
use Rattle.placing.proofs.Ends.{ends-zero}
use Rattle.placing.proofs.places.Goals as goal

pub returns : goal.returns
returns c = let a = c.args in
    let t = c.attempt-r in
    rw (c.fill_from.ensures, c.fill_from-2.ensures)
    (ends-zero t.result _ a.hints.now _ a.noted.now _ _ t.auto.hints t.auto.noted t.ensures)
