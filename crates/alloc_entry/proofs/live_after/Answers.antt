-- A state that passes is good.
use Rattle.std.proofs.Common.{sym, ◌∙◌}
use Rattle.alloc.proofs.Owned.{fitted}
use Rattle.alloc_entry.proofs.Refusals.{judged_good}
use Rattle.alloc_entry.proofs.live_after.Goals as goal

pub live_after-requires : goal.live_after-requires
live_after-requires c = let a = c.args in
    (judged_good a.gprs.now a.fprs.now a.s _ (fitted a.s _ c.well_formed.0) (sym c.judged.ensures ∙ c.in_ok-judged.was)).within

pub live_after-requires-2 : goal.live_after-requires-2
live_after-requires-2 c = let a = c.args in
    (judged_good a.gprs.now a.fprs.now a.s _ (fitted a.s _ c.well_formed.0) (sym c.judged.ensures ∙ c.in_ok-judged.was)).within
