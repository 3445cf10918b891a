-- What an entry in a free register leaves is what `good_pin` speaks of.
use Rattle.std.proofs.Common.{sym, ◌∙◌}
use Rattle.alloc.proofs.Keeps.{good_pinned}
use Rattle.alloc.proofs.Alloc.pin.Goals as goal

pub returns-then-is_free-clause-good : goal.returns-then-is_free-clause-good
returns-then-is_free-clause-good c =
    rw (c.push.ensures, c.take_reg-taken.ensures)
    (good_pinned c.args.r c.args.end c.args.self c.requires (sym c.is_free.ensures ∙ c.if-is_free.true))
