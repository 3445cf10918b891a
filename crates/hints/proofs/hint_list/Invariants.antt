-- What is left to hint from j on: each turn takes one step of the run.
use Rattle.std.proofs.Common.{◌≡◌, ℕ, ◌+◌, ◌-◌, List}
use Rattle.alloc.specs.declared.Alloc.{Alloc}
use Rattle.input.specs.Layout.{list_at}
use Rattle.assign.specs.Steps.{hints}
use Rattle.assign.specs.Walk.{walk, run}
use Rattle.hints.proofs.hint_list.Given as goal

abbrev pub invariant-loop-j : goal.invariant-loop-j
invariant-loop-j l = (s : Alloc) (pool k : List ℕ) → run l.ws pool (hints (list_at l.ws (l.a + l.j) (l.n - l.j)) (list_at l.ws (l.p + l.j) (l.m - l.j))) (walk s l.map l.wish k) ≡ run l.ws pool (hints (list_at l.ws l.a l.n) (list_at l.ws l.p l.m)) (walk s l.map l.initial.wish k)
