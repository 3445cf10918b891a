-- What is left to resolve gives the whole: one law each for the start, a turn and the end.
use Rattle.base.proofs.Pens.{left-turn, left_end}
use Rattle.frame.proofs.Resolving.{resolve-start, resolve-turn, resolve-end, lowers_resolve}
use Rattle.frame.proofs.resolve_all.Goals as goal

pub loop-pc-init : goal.loop-pc-init
loop-pc-init c = λ s. resolve-start _ _ s _ _ c.requires.0

pub loop-pc-preserved : goal.loop-pc-preserved
loop-pc-preserved c =
    λ s. left-turn _ (c.loop-pc.invariant s)
    (lowers_resolve _ _ _ c.requires.0 c.loop-pc-test.true c.get_or.ensures c.resolved_word-w.ensures c.set.ensures)
    (resolve-turn _ _ c.loop-pc-test.true)

pub returns : goal.returns
returns c = λ s. left_end (c.loop-pc.invariant s) (resolve-end _ _ c.loop-pc-test.false)
