-- The number of a verdict, by the first refusal that applies.
use mathlib.Core.Bool.{true, false}
use mathlib.Core.List.{List}
use mathlib.Core.Path.{◌≡◌}
use Prim.Native.Nat.{ℕ}
use Rattle.input.specs.Forms.{words_ok}
use Rattle.shape.specs.Counts.{counts_ok}
use Rattle.shape.specs.Shape.{shape_ok}
use Rattle.fit.specs.Intervals.{once_ok, intervals_ok}
use Rattle.fit.specs.Callees.{callees_ok}
use Rattle.fit.specs.Keys.{keyed_ok}
use Rattle.judge.specs.Judged.{unfit}
use Rattle.judge.specs.Passes.{unfit_rows}

module _ (ws functions : List ℕ) where
  pub bad_shape : shape_ok ws ≡ false → 3 ≡ unfit_rows ws functions
  unfolding unfit_rows
  bad_shape a = rw a

  pub double_def : shape_ok ws ≡ true → once_ok ws ≡ false → 4 ≡ unfit_rows ws functions
  unfolding unfit_rows
  double_def a b = rw (a, b)

  pub bad_interval : shape_ok ws ≡ true → once_ok ws ≡ true → intervals_ok ws ≡ false → 5 ≡ unfit_rows ws functions
  unfolding unfit_rows
  bad_interval a b c = rw (a, b, c)

  pub unknown_func : shape_ok ws ≡ true → once_ok ws ≡ true → intervals_ok ws ≡ true → callees_ok ws functions ≡ false → 6 ≡ unfit_rows ws functions
  unfolding unfit_rows
  unknown_func a b c d = rw (a, b, c, d)

  pub bad_key : shape_ok ws ≡ true → once_ok ws ≡ true → intervals_ok ws ≡ true → callees_ok ws functions ≡ true → keyed_ok ws ≡ false
      → 7 ≡ unfit_rows ws functions
  unfolding unfit_rows
  bad_key a b c d e = rw (a, b, c, d, e)

  pub no_refusal : shape_ok ws ≡ true → once_ok ws ≡ true → intervals_ok ws ≡ true → callees_ok ws functions ≡ true → keyed_ok ws ≡ true
      → 0 ≡ unfit_rows ws functions
  unfolding unfit_rows
  no_refusal a b c d e = rw (a, b, c, d, e)

  module _ (n : ℕ) where
    pub bad_word : words_ok ws ≡ false → 1 ≡ unfit n ws functions
    unfolding unfit
    bad_word a = rw a

    pub too_many : words_ok ws ≡ true → counts_ok n ws ≡ false → 2 ≡ unfit n ws functions
    unfolding unfit
    too_many a b = rw (a, b)

    -- the rest is a question of the rows
    pub then-rows : words_ok ws ≡ true → counts_ok n ws ≡ true → unfit_rows ws functions ≡ unfit n ws functions
    unfolding unfit unfit_rows
    then-rows a b = rw (a, b)
