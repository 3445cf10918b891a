-- A fresh state is good.
use Rattle.alloc.specs.State.{fresh_of}
use Rattle.alloc.proofs.Keeps.{good_fresh}
use Rattle.alloc.proofs.Alloc.new.Goals as goal

pub returns-clause-good : goal.returns-clause-good
unfolding fresh_of
returns-clause-good c = rw (c.mask_of.ensures, c.mask_of-2.ensures) (good_fresh c.args.gprs.now c.args.fprs.now)
