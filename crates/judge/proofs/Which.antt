-- What a row has to be, by the refusal's number.
use Prim.Native.Nat.{ℕ}
use mathlib.Core.List.{List}
use mathlib.Core.Path.{◌≡◌, refl}
use Rattle.rows.specs.Rows.{Row, Ref, rows_of, defs_of, every}
use Rattle.shape.specs.Shape.{row_shape}
use Rattle.fit.specs.Intervals.{intervals_ok}
use Rattle.fit.specs.Callees.{callees_ok}
use Rattle.fit.specs.Keys.{keyed_ok}
use Rattle.judge.specs.Passes.{row_ok}

module _ (which : ℕ) (ws functions : List ℕ) (ds : List Ref) (r : ℕ) where
  pub which_shape : (x : Row) → which ≡ 3 → row_ok which ws functions ds r x ≡ row_shape ws r x
  unfolding row_ok
  which_shape x e = rw e

-- the whole pass for each refusal
module _ (ws functions : List ℕ) (ds : List Ref) where
  pub pass_shape : every (row_ok 3 ws functions ds) 0 (rows_of ws) ≡ every (row_shape ws) 0 (rows_of ws)
  unfolding row_ok
  pass_shape = refl

  pub pass_callees : every (row_ok 6 ws functions ds) 0 (rows_of ws) ≡ callees_ok ws functions
  unfolding row_ok
  pass_callees = refl

  pub pass-keys : every (row_ok 7 ws functions ds) 0 (rows_of ws) ≡ keyed_ok ws
  unfolding row_ok
  pass-keys = refl

pub pass_intervals : (ws functions : List ℕ) → every (row_ok 5 ws functions (defs_of ws)) 0 (rows_of ws) ≡ intervals_ok ws
unfolding row_ok
pass_intervals ws functions = refl
