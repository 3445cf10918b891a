-- What is left gives the whole: a law for a turn with a part, and one for the end.
use Rattle.std.proofs.Common.{◌≡◌, sym, ◌∙◌, length, min, arith}
use Rattle.std.specs.Slice.Iter.{rchunks_rest}
use Rattle.base.proofs.Pens.{left-turn, left_end}
use Rattle.packs.proofs.Packs.{pop_part, pop_none}
use Rattle.packs.proofs.put_pops_back.Goals as goal

pub loop-part-preserved : goal.loop-part-preserved
loop-part-preserved c =
    let v = c.loop-part.invariant in
    let s = c.in-Some.ensures.steps in
    let h : length c.in-Some.part.now ≡ min 3 (length (rchunks_rest c.loop-part.part-iterator)) = rw v.0 at s.1.1 in
    (s.0 ∙ v.0, λ l. left-turn _ (v.1 l) (c.put_pop_back-q.ensures l) (pop_part _ _ _ s.1.0 h))

pub returns : goal.returns
returns c =
    let rest = rchunks_rest c.loop-part.part-iterator in
    λ l. left_end (c.loop-part.invariant.1 l) (λ q. sym (pop_none rest (omega (arith, c.in-None.ensures.steps.1.0)) q))
