-- A state that passes is good.
use Rattle.std.proofs.Common.{sym, ◌∙◌}
use Rattle.alloc.proofs.Owned.{fitted}
use Rattle.alloc_entry.proofs.Refusals.{judged_good}
use Rattle.alloc_entry.proofs.expire_at.Goals as goal

pub expire-requires : goal.expire-requires
expire-requires c = let a = c.args in
    judged_good a.gprs.now a.fprs.now a.s _ (fitted a.s _ c.well_formed.0) (sym c.judged.ensures ∙ c.in_default.is)
