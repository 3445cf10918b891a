-- The loops that hold the entries of a buffer against what they should be.
use Prim.Native.Nat.{ℕ, suc, ◌+◌, ◌-◌, ◌≤◌, ◌<◌}
use mathlib.Core.Path.{◌≡◌}
use mathlib.Core.Bool.{Bool, true, false}
use mathlib.Core.List.{List}
use native.Mathlib.Nat.{sub-zero}
use native.Mathlib.Omega.{arith}
use lib.ListN.{get_or}
use Rattle.replay.specs.Words.{alike_by}

module _ {A : Type 0} (same : A → A → Bool) (none : A) (f : ℕ → A) (n : ℕ) (l : List A) where
  -- Every entry before i is right, so those from i on decide.
  pub record LeftToCompare (i : ℕ) : Type 0 where
    pub so : alike_by same none f l i (n - i) ≡ alike_by same none f l 0 n

  -- before the first turn all are left
  pub compare_start : LeftToCompare 0
  compare_start = record { so = rw (sub-zero n) }

  -- an entry that is right
  pub compare_turn : (i : ℕ) → LeftToCompare i → i < n → same (get_or l i none) (f i) ≡ true → LeftToCompare (i + 1)
  unfolding alike_by
  compare_turn i w h e = let k : n - i ≡ suc (n - (i + 1)) = omega arith in record { so = rw (k, e) at w.so }

  -- an entry that is wrong
  pub compare_stop : (i : ℕ) → LeftToCompare i → i < n → same (get_or l i none) (f i) ≡ false → false ≡ alike_by same none f l 0 n
  unfolding alike_by
  compare_stop i w h e = let k : n - i ≡ suc (n - (i + 1)) = omega arith in rw (k, e) at w.so

  -- past the last turn none is left
  pub compare_end : (i : ℕ) → LeftToCompare i → n ≤ i → true ≡ alike_by same none f l 0 n
  unfolding alike_by
  compare_end i w h = let k : n - i ≡ 0 = omega arith in rw k at w.so
