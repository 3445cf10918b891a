-- One law for each side of the test.
use Rattle.answers.proofs.Words.{new-stored, new_none}
use Rattle.answers.proofs.store_new.Goals as goal

pub returns-then-n-eq0 : goal.returns-then-n-eq0
returns-then-n-eq0 c =
    let a = c.args in
    new-stored a.used.now a.n.number a.n.used c.if-n-eq0.true c.set.ensures

pub returns-else-n-eq0 : goal.returns-else-n-eq0
returns-else-n-eq0 c =
    let a = c.args in
    new_none a.used.now a.n.number a.n.used c.if-n-eq0.false
