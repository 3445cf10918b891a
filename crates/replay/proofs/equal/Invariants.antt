-- Every entry before i is right, so those from i on decide.
use Rattle.std.proofs.Common.{get_or}
use Rattle.replay.proofs.Comparing.{LeftToCompare}
use Rattle.replay.proofs.equal.Given as goal

abbrev pub invariant-loop-i : goal.invariant-loop-i
invariant-loop-i g l =
    LeftToCompare g.T.Entry.same (g.T.Entry.of 0) (λ i. get_or l.b i (g.T.Entry.of 0)) l.n l.a l.i
