-- The invariant: r rows stand before block b, and the blocks from b on decide the answer.
use mathlib.Core.List.{List}
use Rattle.rows.specs.Rows.{Ref, rows_from, every}
use Rattle.rows.proofs.Every.{RowsBefore, BlocksLeft}
use Rattle.fit.specs.Tabled.{Tabled}
use Rattle.judge.specs.Passes.{check_number, row_ok}
use Rattle.judge.proofs.pass.Given as goal

abbrev pub invariant-loop-b : goal.invariant-loop-b
invariant-loop-b l = RowsBefore l.ws l.b-end l.r l.b
    × ((ds : List Ref) → Tabled l.rows ds → BlocksLeft (row_ok (check_number l.which) l.ws l.functions ds) l.ws l.b-end (every (row_ok (check_number l.which) l.ws l.functions ds) 0 (rows_from l.ws 0 l.b-end)) l.r l.b)
