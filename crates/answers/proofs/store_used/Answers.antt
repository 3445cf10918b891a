-- Seven stores, each behind the one before.
use Rattle.answers.proofs.Words.{then}
use Rattle.answers.proofs.store_used.Goals as goal

pub returns : goal.returns
returns c =
    let a = c.args.u in
    then 6 a.values c.set-7.ensures
    (then 5 a.lookups c.set-6.ensures
    (then 4 a.targets c.set-5.ensures
    (then 3 a.switches c.set-4.ensures
    (then 2 a.builtins c.set-3.ensures
    (then 1 a.globals c.set-2.ensures
    c.set.ensures)))))
