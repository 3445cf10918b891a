-- The first unfit function is among those from k on.
use mathlib.Core.Path.{refl, sym, ◌∙◌}
use Rattle.place.specs.Registers.{registers}
use Rattle.strings.proofs.Parts.{first_none, first_found, first_on}
use Rattle.strings.proofs.first_unfit.Goals as goal

pub returns-in-Err : goal.returns-in-Err
returns-in-Err c =
    let a = c.args in
    let l = c.loop-k in
    sym (first_found a.words.now l.from a.ends.now l.k _ refl c.loop-k-test.true registers c.in-Err.why c.in-Err.ensures) ∙ l.invariant

pub loop-k-preserved : goal.loop-k-preserved
loop-k-preserved c =
    let a = c.args in
    let l = c.loop-k in
    sym (first_on a.words.now l.from a.ends.now l.k _ refl c.loop-k-test.true registers (sym c.in_default.ensures)) ∙ l.invariant

pub returns : goal.returns
returns c =
    let a = c.args in
    let l = c.loop-k in
    sym (first_none a.words.now l.from a.ends.now l.k registers c.loop-k-test.false) ∙ l.invariant
