-- What is left to store gives the whole.
use Rattle.replay.proofs.Loading.{LeftToStore}
use Rattle.replay.proofs.load.Given as goal

abbrev pub invariant-loop-i : goal.invariant-loop-i
invariant-loop-i g l = LeftToStore (g.T.Entry.read l.bytes l.at) l.n l.initial.to l.to l.i
