-- Every entry before i is right, so those from i on decide.
use Rattle.replay.specs.Words.{listed}
use Rattle.replay.proofs.Comparing.{LeftToCompare}
use Rattle.replay.proofs.right.Given as goal

abbrev pub invariant-loop-i : goal.invariant-loop-i
invariant-loop-i g l =
    LeftToCompare g.T.Entry.same (g.T.Entry.of 0) (listed (g.T.Entry.read l.bytes l.at) l.used l.rest) l.n l.a l.i
