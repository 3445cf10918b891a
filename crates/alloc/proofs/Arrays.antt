-- Laws of an array that starts with a list, and of an array of masks.
use mathlib.Core.Path.{◌≡◌, ◌∙◌, subst}
use mathlib.Core.Logic.{⊎_elim, ◌≢◌}
use mathlib.Core.List.{List, [], ◌∷◌, ◌++◌, append_assoc}
use Prim.Native.Nat.{ℕ, suc, ◌+◌, ◌-◌, ◌≤◌, ◌<◌}
use native.Mathlib.Omega.{arith}
use native.Mathlib.Numerals.{add-one}
use lib.ListN.{length, get_or, drop, set, length-append, length-drop}
use lib.Seq.{get_or-append-add, get_or-drop, drop-cons, set-append_seam, set_out, get_or-set_same, get_or-set_other}
use Rattle.base.proofs.Numbers.{lt?, same?}
use Rattle.alloc.specs.State.{over}

module _ {A : Type 0} where
  pub length_over : (xs ys : List A) → length xs ≤ length ys → length (over xs ys) ≡ length ys
  length_over xs ys h = simp (length-append, length-drop) (omega arith)

  -- behind the list the array is as it was
  pub over-get_or : (xs ys : List A) (i : ℕ) (d : A) → length xs ≤ i → get_or (over xs ys) i d ≡ get_or ys i d
  over-get_or xs ys i d h =
      let e : length xs + (i - length xs) ≡ i = omega arith in
      subst (λ (k : ℕ). get_or (over xs ys) k d ≡ get_or ys k d) e
      (get_or-append-add xs (drop (length xs) ys) (i - length xs) d ∙ get_or-drop (length xs) ys (i - length xs) d)

  -- a store behind the list makes it one longer
  pub over-set : (xs ys : List A) (e : A) → length xs < length ys → set (over xs ys) (length xs) e ≡ over (xs ++ e ∷ []) ys
  over-set xs ys e h =
      rw (drop-cons ys (length xs) e h)
      (set-append_seam xs (get_or ys (length xs) e) (drop (suc (length xs)) ys) e
      ∙ simp (length-append, add-one, append_assoc))

-- what each element keeps below a bound, one that is stored keeps there too
pub set_below : (n : ℕ) (l : List ℕ) (i v : ℕ) → ((k : ℕ) → get_or l k 0 < n) → v < n → (k : ℕ) → get_or (set l i v) k 0 < n
set_below n l i v h b k =
    ⊎_elim
    (λ (e : k ≡ i).
    ⊎_elim
    (λ (q : i < length l). rw (e, get_or-set_same l i v 0 q) b)
    (λ (q : length l ≤ i). rw (set_out l i v q) (h k))
    (lt? i (length l)))
    (λ (e : k ≢ i). rw (get_or-set_other l i k v 0 e) (h k))
    (same? k i)
