-- A verdict's number is at most 7.
use mathlib.Core.List.{List}
use Prim.Native.Nat.{ℕ, ◌≤◌}
use native.Mathlib.Omega.{arith}
use Rattle.base.proofs.Numbers.{pick-both}
use Rattle.input.specs.Forms.{words_ok}
use Rattle.shape.specs.Counts.{counts_ok}
use Rattle.shape.specs.Shape.{shape_ok}
use Rattle.fit.specs.Intervals.{once_ok, intervals_ok}
use Rattle.fit.specs.Callees.{callees_ok}
use Rattle.fit.specs.Keys.{keyed_ok}
use Rattle.judge.specs.Judged.{unfit}

pub unfit_small : (n : ℕ) (ws functions : List ℕ) → unfit n ws functions ≤ 7
unfolding unfit
unfit_small n ws functions =
    let small = pick-both (λ (k : ℕ). k ≤ 7) in
    small (words_ok ws) _ 1
    (small (counts_ok n ws) _ 2
    (small (shape_ok ws) _ 3
    (small (once_ok ws) _ 4
    (small (intervals_ok ws) _ 5
    (small (callees_ok ws functions) _ 6 (small (keyed_ok ws) 0 7 (omega arith) (omega arith)) (omega arith)) (omega arith)) (omega arith)) (omega arith))
    (omega arith))
    (omega arith)
