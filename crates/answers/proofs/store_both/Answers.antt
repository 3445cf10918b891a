-- Two stores, one behind the other.
use Rattle.answers.proofs.Words.{then}
use Rattle.answers.proofs.store_both.Goals as goal

pub returns : goal.returns
returns c =
    let a = c.args.n in
    then 1 a.index c.set-2.ensures c.set.ensures
