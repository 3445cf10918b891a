-- The pairs that are left answer for all of them.
use mathlib.Core.Path.{◌≡◌}
use Rattle.edges.proofs.Moved.{some_from, some_of}
use Rattle.edges.proofs.any_moved.Given as goal

abbrev pub invariant-loop-j : goal.invariant-loop-j
invariant-loop-j l = some_from l.vs.ws.now l.vs.map.now l.at l.to l.n l.j ≡ some_of l.vs.ws.now l.vs.map.now l.at l.to l.n
