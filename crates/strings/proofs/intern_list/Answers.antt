-- The functions from the end on are left, and none of them is unfit.
use mathlib.Core.Path.{refl, ◌∙◌}
use Rattle.place.specs.Registers.{registers}
use Rattle.grow.proofs.Growing.{left-turn, left_end}
use Rattle.strings.proofs.Parts.{fit-here, fit_on, strings_turn, strings_none}
use Rattle.strings.proofs.intern_list.Goals as goal

pub intern_part-f-requires : goal.intern_part-f-requires
intern_part-f-requires c =
    let a = c.args in
    let l = c.loop-end in
    fit-here a.words.now l.from a.ends.now l.end-index _ refl c.loop-end-test.true registers l.invariant.1

pub loop-end-preserved : goal.loop-end-preserved
loop-end-preserved c =
    let a = c.args in
    let l = c.loop-end in
    let t = c.loop-end-test.true in (
      c.intern_part-f.auto.globals ∙ l.invariant.0,
      fit_on a.words.now l.from a.ends.now l.end-index _ refl t registers l.invariant.1,
      left-turn _ l.invariant.2 c.intern_part-f.ensures (strings_turn a.words.now l.from a.ends.now l.end-index _ refl t),
    )

pub returns : goal.returns
returns c =
    let a = c.args in
    let l = c.loop-end in
    left_end l.invariant.2 (strings_none a.words.now l.from a.ends.now l.end-index c.loop-end-test.false)
