-- Laws of pool lists: the last free register, and the mask of a pool.
use mathlib.Core.Path.{◌≡◌, refl}
use mathlib.Core.Bool.{Bool, true, false}
use mathlib.Core.List.{List, [], ◌∷◌, ◌++◌}
use Prim.Native.Nat.{ℕ, ◌^◌, ◌<◌}
use Rattle.std.specs.Prelude.{Option, Some, None}
use Rattle.base.specs.Choice.{pick}
use Rattle.base.specs.Masks.{has_bit, with_bit}
use Rattle.base.proofs.Masks.{with_lt}
use Rattle.alloc.specs.State.{mask_of}
use Rattle.alloc.specs.Allocation.{last_free, or_else}

-- ---- the last free register
either : (b : Bool) (x : ℕ) (f g : Option ℕ) → or_else (pick b (Some x) f) g ≡ pick b (Some x) (or_else f g)
either true x f g = refl
either false x f g = refl

-- the last register is asked first
pub last_more : (m : ℕ) (xs : List ℕ) (x : ℕ) → last_free m (xs ++ x ∷ []) ≡ pick (has_bit m x) (Some x) (last_free m xs)
unfolding last_free
last_more m [] x = refl
last_more m (y ∷ ys) x =
    rw (last_more m ys x) (either (has_bit m x) x (last_free m ys) (pick (has_bit m y) (Some y) None))

-- what is found is free
abbrev pub IsIn : ℕ → Option ℕ → Type 0
IsIn m (Some r) = has_bit m r ≡ true
IsIn m None = Unit

found_case : (m x : ℕ) (f : Option ℕ) (b : Bool) → has_bit m x ≡ b → IsIn m f → IsIn m (or_else f (pick b (Some x) None))
found_case m x (Some r) b e h = h
found_case m x None true e h = e
found_case m x None false e h = tt

pub last_in : (m : ℕ) (xs : List ℕ) → IsIn m (last_free m xs)
unfolding last_free
last_in m [] = tt
last_in m (x ∷ xs) = found_case m x (last_free m xs) (has_bit m x) refl (last_in m xs)

-- ---- the mask of a pool
pub mask_lt : (m : ℕ) (xs : List ℕ) → m < 2 ^ 64 → mask_of m xs < 2 ^ 64
unfolding mask_of
mask_lt m [] h = h
mask_lt m (x ∷ xs) h = mask_lt (with_bit m x) xs (with_lt m x h)
