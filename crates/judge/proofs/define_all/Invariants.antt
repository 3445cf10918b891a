-- The invariant: r rows stand before block b, and what is left to define, over the table as it is, gives the whole.
use mathlib.Core.Bool.{true}
use mathlib.Core.Path.{◌≡◌}
use Prim.Native.Nat.{◌-◌}
use lib.ListN.{length}
use Rattle.rows.specs.Rows.{rows_from, over_rows, row_defs}
use Rattle.rows.proofs.Every.{RowsBefore}
use Rattle.fit.specs.Tabled.{marks, marked}
use Rattle.judge.proofs.define_all.Given as goal

abbrev pub invariant-loop-b : goal.invariant-loop-b
invariant-loop-b l = (length l.table ≡ length l.initial.table)
    × RowsBefore l.ws l.b-end l.r l.b
    × (marked (over_rows (row_defs l.ws) l.r (rows_from l.ws l.b (l.b-end - l.b))) (marks l.table true) ≡ marked (over_rows (row_defs l.ws) 0 (rows_from l.ws 0 l.b-end)) (marks l.initial.table true))
