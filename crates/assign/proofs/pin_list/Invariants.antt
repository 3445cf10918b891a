-- What is left to pin from j on: each turn takes one step of the run.
use Rattle.std.proofs.Common.{◌≡◌, ℕ, ◌+◌, ◌-◌, List}
use Rattle.alloc.specs.Good.{Good}
use Rattle.input.specs.Layout.{list_at}
use Rattle.assign.specs.Steps.{pins}
use Rattle.assign.specs.Walk.{walk, run}
use Rattle.assign.proofs.pin_list.Given as goal

abbrev pub invariant-loop-j : goal.invariant-loop-j
invariant-loop-j l = record {
  good : Good l.t;
  left : (m : List ℕ) → run l.r.ws.now l.r.pool.now (pins l.r.row l.j (list_at l.r.ws.now (l.at + l.j) (l.n - l.j))) (walk l.t l.map l.r.wish.now m) ≡ run l.r.ws.now l.r.pool.now (pins l.r.row 0 (list_at l.r.ws.now l.at l.n)) (walk l.initial.t l.initial.map l.r.wish.now m);
}
