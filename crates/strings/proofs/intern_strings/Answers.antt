-- One law for each refusal; what is left has a fit list and a used length that is right.
use mathlib.Core.Path.{sym, ◌∙◌}
use Rattle.place.specs.Registers.{registers}
use Rattle.strings.proofs.Outcomes.{first_found, used_wrong, used_over}
use Rattle.strings.proofs.intern_strings.Goals as goal

pub returns-then-fits-number : goal.returns-then-fits-number
returns-then-fits-number c =
    let a = c.args in
    first_found registers a.words.now a.ends.now a.globals.now a.used c.in-Some.f c.in-Some.ensures _ c.within-fits.ensures
    (rw c.number.ensures at c.if-fits-number.true)

pub returns-in-Some : goal.returns-in-Some
returns-in-Some c =
    let a = c.args in
    used_wrong registers a.words.now a.ends.now a.globals.now a.used c.in-Some.f c.in-Some.ensures _ c.within-fits.ensures
    (rw c.number.ensures at c.if-fits-number.false)

pub returns-then-not-fits : goal.returns-then-not-fits
returns-then-not-fits c =
    let a = c.args in
    used_over registers a.words.now a.ends.now a.globals.now a.used c.in_default.ensures (sym c.within-fits.ensures ∙ c.if-not-fits.true)
