-- What the test of a list of moves says of its columns.
use mathlib.Core.Path.{◌≡◌, refl, sym, ap, ◌∙◌}
use mathlib.Core.Logic.{◌≢◌}
use Prim.Native.Nat.{ℕ, zero, suc, ◌+◌, ◌-◌, ◌≤◌, ◌<◌}
use mathlib.Core.List.{List, [], ◌∷◌}
use mathlib.Core.Bool.{Bool, true, false, true≢false}
use native.Mathlib.Nat.{not-suc-le-zero, le_of_suc-le-suc}
use native.Mathlib.Omega.{arith}
use borrow.Author.Tests.{eq-eqb, ltb-true, ltb-false}
use lib.ListN.{length, get_or}
use lib.Dec.{ltb, eqb}
use Rattle.base.specs.Choice.{pick}
use Rattle.base.specs.Lists.{among, distinct}
use Rattle.place.specs.Places.{slots_from}
use Rattle.place.specs.Registers.{in_pool}
use Rattle.moves.specs.AtOnce.{place_ok, all_ok, moves_ok}
use Rattle.moves.proofs.Columns.{Each}

-- a number that stands in a list is found, and one that is not found stands nowhere
pub among_at : (x : ℕ) (ys : List ℕ) (i : ℕ) → i < length ys → get_or ys i 0 ≡ x → among x ys ≡ true
among_at x [] i h e = absurd (not-suc-le-zero h)
among_at x (y ∷ ys) zero h e = rw (eq-eqb x y (sym e))
among_at x (y ∷ ys) (suc i) h e = go (eqb x y) (among_at x ys i (le_of_suc-le-suc h) e)
  where
    go : (b : Bool) → among x ys ≡ true → pick b true (among x ys) ≡ true
    go true ih = refl
    go false ih = ih

pub among-not : (x : ℕ) (ys : List ℕ) → among x ys ≡ false → Each (λ y. y ≢ x) ys
among-not x ys n i h e = true≢false (sym (among_at x ys i h e) ∙ n)

-- equal numbers stand at one place
abbrev pub Distinct : List ℕ → Type 0
Distinct l = (i j : ℕ) → i < length l → j < length l → get_or l i 0 ≡ get_or l j 0 → i ≡ j

pub distinct_is : (l : List ℕ) → distinct l ≡ true → Distinct l
distinct_is [] h i j p q e = absurd (not-suc-le-zero p)
distinct_is (x ∷ l) h i j p q e = go (among x l) refl (distinct_is l) i j p q e
  where
    go : (b : Bool) → among x l ≡ b → (distinct l ≡ true → Distinct l) → Distinct (x ∷ l)
    go true f ih i j p q e = absurd (true≢false (sym (rw f at h)))
    go false f ih zero zero p q e = refl
    go false f ih zero (suc j) p q e = absurd (among-not x l f j (le_of_suc-le-suc q) (sym e))
    go false f ih (suc i) zero p q e = absurd (among-not x l f i (le_of_suc-le-suc p) e)
    go false f ih (suc i) (suc j) p q e = ap suc (ih (rw f at h) i j (le_of_suc-le-suc p) (le_of_suc-le-suc q) e)

-- a place that is allowed is no register from N-2 up, and no slot past those there are
pub place-within : (n slots p : ℕ) → place_ok n slots p ≡ true → p < slots_from + slots
place-within n slots p e = go (ltb p slots_from) refl e
  where
    go : (b : Bool) → ltb p slots_from ≡ b → pick b (in_pool n p) (ltb (p - slots_from) slots) ≡ true → p < slots_from + slots
    go true q r = omega (arith, ltb-true p slots_from q)
    go false q r = omega (arith, ltb-true (p - slots_from) slots r)

pub place_apart : (n slots p r : ℕ) → place_ok n slots p ≡ true → n - 2 ≤ r → r < slots_from → p ≢ r
place_apart n slots p r e k l f = go (ltb p slots_from) refl e
  where
    go : (b : Bool) → ltb p slots_from ≡ b → pick b (in_pool n p) (ltb (p - slots_from) slots) ≡ true → ⊥
    go true q t = omega (arith, ltb-true p (n - 2) t)
    go false q t = omega (arith, ltb-false p slots_from q)

pub all_each : (n slots : ℕ) (l : List ℕ) → all_ok n slots l ≡ true → Each (λ p. place_ok n slots p ≡ true) l
all_each n slots [] h j p = absurd (not-suc-le-zero p)
all_each n slots (x ∷ l) h j p = go (place_ok n slots x) refl (all_each n slots l) j p
  where
    go : (b : Bool) → place_ok n slots x ≡ b → (all_ok n slots l ≡ true → Each (λ p. place_ok n slots p ≡ true) l)
        → Each (λ p. place_ok n slots p ≡ true) (x ∷ l)
    go false f ih j p = absurd (true≢false (sym (rw f at h)))
    go true f ih zero p = f
    go true f ih (suc j) p = ih (rw f at h) j (le_of_suc-le-suc p)

-- the columns of a list of moves that is allowed
pub record Checked (n slots : ℕ) (ss ds : List ℕ) : Type 0 where
  pub sources : Each (λ p. place_ok n slots p ≡ true) ss
  pub destinations : Each (λ p. place_ok n slots p ≡ true) ds
  pub once : Distinct ds

pub moves_checked : (n slots : ℕ) (ss ds : List ℕ) → moves_ok n slots ss ds ≡ true → Checked n slots ss ds
moves_checked n slots ss ds h = go (all_ok n slots ss) refl (all_ok n slots ds) refl h
  where
    go : (b : Bool) → all_ok n slots ss ≡ b → (b' : Bool) → all_ok n slots ds ≡ b' → pick b (pick b' (distinct ds) false) false ≡ true
        → Checked n slots ss ds
    go true e true e' k = record { sources = all_each n slots ss e; destinations = all_each n slots ds e'; once = distinct_is ds k }
    go true e false e' k = absurd (true≢false (sym k))
    go false e b' e' k = absurd (true≢false (sym k))
