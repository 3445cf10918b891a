-- What stands in the columns and the moves of the arguments from j on make up the whole.
use Prim.Native.Nat.{◌+◌, ◌-◌, ◌≤◌}
use Rattle.input.specs.Layout.{list_at}
use Rattle.edges.proofs.Columns.{Toward}
use Rattle.calls.proofs.Shuffling.{shuffled_from, shuffled_to}
use Rattle.calls.proofs.gather_arguments.Given as goal

abbrev pub invariant-loop-j : goal.invariant-loop-j
invariant-loop-j l =
    (l.m ≤ l.j)
    × Toward (shuffled_from l.a.vs.ws.now l.a.vs.map.now l.pushes l.j (list_at l.a.vs.ws.now (l.a.at + l.j) (l.a.count - l.j))) (shuffled_from l.a.vs.ws.now l.a.vs.map.now l.pushes 0 (list_at l.a.vs.ws.now l.a.at l.a.count)) l.src l.m
    × Toward (shuffled_to l.a.vs.ws.now l.a.vs.map.now l.pushes l.j (list_at l.a.vs.ws.now (l.a.at + l.j) (l.a.count - l.j))) (shuffled_to l.a.vs.ws.now l.a.vs.map.now l.pushes 0 (list_at l.a.vs.ws.now l.a.at l.a.count)) l.dst l.m
