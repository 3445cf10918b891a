-- Every entry before i is right, so those from i on decide.
use Rattle.replay.proofs.Comparing.{LeftToCompare}
use Rattle.replay.proofs.zeros.Given as goal

abbrev pub invariant-loop-i : goal.invariant-loop-i
invariant-loop-i g l =
    LeftToCompare g.T.Entry.same (g.T.Entry.of 0) (λ i. g.T.Entry.of 0) l.n l.a l.i
