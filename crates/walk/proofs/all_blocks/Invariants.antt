-- What is left of the rows from block b on: each turn takes those of one block.
use mathlib.Core.Path.{◌≡◌}
use Prim.Native.Nat.{◌+◌, ◌-◌}
use lib.ListN.{length}
use Rattle.alloc.specs.Good.{Good}
use Rattle.rows.specs.Rows.{rows_from}
use Rattle.assign.specs.Walk.{walk}
use Rattle.assign.specs.Fits.{run_rows}
use Rattle.walk.proofs.all_blocks.Given as goal

abbrev pub invariant-loop-b : goal.invariant-loop-b
invariant-loop-b l = record {
  row : l.row + length (rows_from l.ws l.b (l.n - l.b)) ≡ length (rows_from l.ws 0 l.n);
  good : Good l.t;
  left : run_rows l.ws l.pool l.row (rows_from l.ws l.b (l.n - l.b)) (walk l.t l.map l.wish l.noted) ≡ run_rows l.ws l.pool 0 (rows_from l.ws 0 l.n) (walk l.initial.t l.initial.map l.initial.wish l.initial.noted);
}
