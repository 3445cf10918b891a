-- Eight tests, one for each used length.
use Rattle.first_checks.proofs.Sizes.{used_is}
use Rattle.first_checks.proofs.used_ok.Goals as goal

pub returns : goal.returns
returns c = λ b z.
    used_is c.args.n c.args.u b z _ _ _ _ _ _ _ _
    c.within.ensures
    c.within-2.ensures
    c.within-3.ensures
    c.within-4.ensures
    c.within-5.ensures
    c.slots_within.ensures
    c.within-6.ensures
    c.slots_within-2.ensures
