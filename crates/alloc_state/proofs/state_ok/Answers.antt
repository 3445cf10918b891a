-- That the marks find out the rest is a law of the marking pass.
use Rattle.std.proofs.Common.{◌≡◌, sym, ◌∙◌, true}
use Rattle.alloc.proofs.Owned.{fitted}
use Rattle.alloc_state.specs.Judged.{all_below, counts_ok}
use Rattle.alloc_state.proofs.States.{counts_are, state_rest}
use Rattle.alloc_state.proofs.Judge.{judged-marks}
use Rattle.alloc_state.proofs.state_ok.Goals as goal

pub returns : goal.returns
returns c =
    let a = c.args in
    let g : all_below a.gprs.now ≡ true = sym c.all_below.ensures ∙ c.if-not-all_below.false in
    let f : all_below a.fprs.now ≡ true = sym c.all_below-else-not-all_below.ensures ∙ c.if-not-all_below-2.false in
    let k : counts_ok a.s ≡ true = sym c.counts_ok.ensures ∙ c.if-not-counts_ok.false in
    rw (c.mark_active.ensures, c.mark_slots-slots.ensures, c.first_marks.ensures, c.mask_of.ensures, c.mask_of-2.ensures)
    (judged-marks a.gprs.now a.fprs.now a.s (fitted a.s _ c.well_formed.0) g f (counts_are a.s k).made
    ∙ sym (state_rest a.gprs.now a.fprs.now a.s g f k))
