-- The pass over the rows that refusals 3, 5, 6 and 7 share: what each asks of a row, and where it may find a block's instructions.
use Rattle.std.specs.Prelude.{ℕ, ◌+◌, ◌≤◌, Bool, true, List, ◌≡◌, eqb}
use Rattle.base.specs.Choice.{pick}
use Rattle.input.specs.Layout.{instructions}
use Rattle.input.specs.Records.{is_live, first_instr, instr_count}
use Rattle.rows.specs.Rows.{Row, Ref}
use Rattle.shape.specs.Shape.{row_shape, shape_ok}
use Rattle.fit.specs.Intervals.{fit_row, once_ok, intervals_ok}
use Rattle.fit.specs.Callees.{row_callee, callees_ok}
use Rattle.fit.specs.Keys.{row_keys, keyed_ok}
use Rattle.judge.specs.declared.RowCheck.{RowCheck}
use Rattle.judge.specs.declared.RowCheck.TheVariants.{Shape, Interval, Callee, Keys}

-- by the refusal's number; ds are the function's definitions
unfoldable pub row_ok : ℕ → List ℕ → List ℕ → List Ref → ℕ → Row → Bool
row_ok which ws functions ds =
    pick (eqb which 3) (row_shape ws)
    (pick (eqb which 5) (fit_row ws ds)
    (pick (eqb which 6) (row_callee ws functions)
    (row_keys ws)))

-- the refusal's number of each pass
abbrev pub check_number : RowCheck → ℕ
check_number Shape = 3
check_number Interval = 5
check_number Callee = 6
check_number Keys = 7

-- the instructions of a live block are there
abbrev pub Placed : List ℕ → ℕ → Type 0
Placed ws b = is_live ws b ≡ true → first_instr ws b + instr_count ws b ≤ instructions ws

-- the lowest number from 3 to 7 that applies, 0 for none
unfoldable pub unfit_rows : List ℕ → List ℕ → ℕ
unfit_rows ws functions =
    pick (shape_ok ws)
    (pick (once_ok ws)
    (pick (intervals_ok ws)
    (pick (callees_ok ws functions)
    (pick (keyed_ok ws)
    0
    7)
    6)
    5)
    4)
    3
