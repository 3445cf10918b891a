-- What stands in the columns and the moves of the pairs from j on make up the whole.
use Prim.Native.Nat.{◌+◌, ◌-◌, ◌≤◌}
use Rattle.input.specs.Layout.{list_at}
use Rattle.edges.proofs.Columns.{Toward}
use Rattle.edges.proofs.Moved.{moved_from, moved_to}
use Rattle.edges.proofs.gather.Given as goal

abbrev pub invariant-loop-j : goal.invariant-loop-j
invariant-loop-j l =
    (l.m ≤ l.j)
    × Toward (moved_from l.vs.ws.now l.vs.map.now (list_at l.vs.ws.now (l.at + l.j) (l.n - l.j)) (list_at l.vs.ws.now (l.to + l.j) (l.n - l.j))) (moved_from l.vs.ws.now l.vs.map.now (list_at l.vs.ws.now l.at l.n) (list_at l.vs.ws.now l.to l.n)) l.src l.m
    × Toward (moved_to l.vs.ws.now l.vs.map.now (list_at l.vs.ws.now (l.at + l.j) (l.n - l.j)) (list_at l.vs.ws.now (l.to + l.j) (l.n - l.j))) (moved_to l.vs.ws.now l.vs.map.now (list_at l.vs.ws.now l.at l.n) (list_at l.vs.ws.now l.to l.n)) l.dst l.m
