-- What is left of the edges from j on: each turn takes the steps of one.
use Rattle.std.proofs.Common.{◌≡◌, ℕ, ◌+◌, ◌-◌, List}
use Rattle.alloc.specs.declared.Alloc.{Alloc}
use Rattle.assign.specs.Steps.{edges_hints}
use Rattle.assign.specs.Walk.{walk, run}
use Rattle.hints.proofs.edges_hints.Given as goal

abbrev pub invariant-loop-j : goal.invariant-loop-j
invariant-loop-j l = (s : Alloc) (pool k : List ℕ) → run l.ws pool (edges_hints l.ws l.b (l.first + l.j) (l.n - l.j)) (walk s l.map l.wish k) ≡ run l.ws pool (edges_hints l.ws l.b l.first l.n) (walk s l.map l.initial.wish k)
