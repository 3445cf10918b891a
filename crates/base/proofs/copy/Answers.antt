-- What finds room is stored; where nothing does, nothing is.
use mathlib.Core.Path.{sym}
use Rattle.base.proofs.Lists.{put_mid-sets, sets-past}
use Rattle.base.proofs.copy.Goals as goal

pub returns-then-at-to : goal.returns-then-at-to
returns-then-at-to g c =
    put_mid-sets c.args.to.now c.args.from.now c.copy_from_slice.new.self c.args.at c.min-n.result c.if-at-to.true c.min-n.ensures
    c.copy_from_slice.ensures.after

pub returns-else-at-to : goal.returns-else-at-to
returns-else-at-to g c = sym (sets-past c.args.to.now c.args.at c.args.from.now c.if-at-to.false)
