-- A state that passes is good.
use Rattle.std.proofs.Common.{sym, ◌∙◌, arith}
use Rattle.alloc.proofs.Owned.{fitted}
use Rattle.alloc_entry.proofs.Refusals.{judged_good}
use Rattle.alloc_entry.proofs.place_id.Goals as goal

pub place_in-requires : goal.place_in-requires
place_in-requires c = let a = c.args in
    (omega arith, judged_good a.gprs.now a.fprs.now a.s _ (fitted a.s _ c.well_formed.0) (sym c.judged.ensures ∙ c.in_default.is))

pub place_in-requires-in-Floating : goal.place_in-requires-in-Floating
place_in-requires-in-Floating c = let a = c.args in
    (omega arith, judged_good a.gprs.now a.fprs.now a.s _ (fitted a.s _ c.well_formed.0) (sym c.judged.ensures ∙ c.in_default.is))
