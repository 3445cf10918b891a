-- What is left of the rows from j on: each turn takes the steps of one.
use mathlib.Core.Path.{◌≡◌}
use Prim.Native.Nat.{◌+◌, ◌-◌}
use Rattle.alloc.specs.Good.{Good}
use Rattle.rows.specs.Rows.{instr_rows}
use Rattle.assign.specs.Walk.{walk}
use Rattle.assign.specs.Fits.{run_rows}
use Rattle.walk.proofs.instr_list.Given as goal

abbrev pub invariant-loop-j : goal.invariant-loop-j
invariant-loop-j l = record {
  good : Good l.t;
  left : run_rows l.r.ws.now l.r.pool.now (l.r.row + l.j) (instr_rows (l.first + l.j) (l.n - l.j)) (walk l.t l.map l.r.wish.now l.noted) ≡ run_rows l.r.ws.now l.r.pool.now l.r.row (instr_rows l.first l.n) (walk l.initial.t l.initial.map l.r.wish.now l.initial.noted);
}
