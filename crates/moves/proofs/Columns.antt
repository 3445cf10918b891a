-- Laws of the two columns: what stands in one after the last filled a gap, and after a source was parked.
use mathlib.Core.Path.{◌≡◌, refl, sym, ap}
use mathlib.Core.Logic.{⊎_elim, ◌≢◌}
use Prim.Native.Nat.{ℕ, zero, suc, ◌-◌, ◌≤◌, ◌<◌}
use mathlib.Core.List.{List, [], ◌∷◌}
use native.Mathlib.Nat.{not-suc-le-zero, le_of_suc-le-suc}
use native.Mathlib.Omega.{arith}
use borrow.Author.Tests.{eq-eqb, ne_eqb}
use lib.ListN.{length, get_or, take, set, length-take, length-set, get_or-eq_default}
use lib.Seq.{get_or-take, get_or-set_same, get_or-set_other, length-take-le, take-set-lt, take-take}
use lib.Dec.{eqb}
use Rattle.base.specs.Choice.{pick}
use Rattle.base.proofs.Numbers.{lt?, same?, pick-both}
use Rattle.moves.specs.Moves.{swap_remove, park}

-- each number of a column has the property P
abbrev pub Each : (ℕ → Type 0) → List ℕ → Type 0
Each P l = (j : ℕ) → j < length l → P (get_or l j 0)

-- what a read gives, within the column or past its end
pub each_read : (P : ℕ → Type 0) (l : List ℕ) → P 0 → Each P l → (j : ℕ) → P (get_or l j 0)
each_read P l z e j =
    ⊎_elim
    (λ (h : j < length l). e j h)
    (λ (h : length l ≤ j). rw (get_or-eq_default l 0 h) z)
    (lt? j (length l))

-- a column is one shorter where one went
pub swap_length : (l : List ℕ) (i : ℕ) → length (swap_remove l i) ≡ length l - 1
unfolding swap_remove
swap_length l i = simp (length-take, length-set) (omega arith)

-- the place that number j had before number i of n went
abbrev pub was : ℕ → ℕ → ℕ → ℕ
was n i j = pick (eqb j i) (n - 1) j

pub swap_at : (l : List ℕ) (i j : ℕ) → j < length l - 1 → get_or (swap_remove l i) j 0 ≡ get_or l (was (length l) i j) 0
unfolding swap_remove
swap_at l i j q =
    ⊎_elim
    (λ (e : j ≡ i). rw (eq-eqb j i e, get_or-take, e) (get_or-set_same l i (get_or l (length l - 1) 0) 0 (omega arith)))
    (λ (e : j ≢ i). rw (ne_eqb j i e, get_or-take) (get_or-set_other l i j (get_or l (length l - 1) 0) 0 e))
    (same? j i)

pub was_lt : (n i j : ℕ) → j < n - 1 → was n i j < n
was_lt n i j q = pick-both (λ x. x < n) (eqb j i) (n - 1) j (omega arith) (omega arith)

-- what holds of each still does where one went
pub swap_each : (P : ℕ → Type 0) (l : List ℕ) (i : ℕ) → Each P l → Each P (swap_remove l i)
swap_each P l i a j q =
    let q' : j < length l - 1 = (rw swap_length at q) in
    rw (swap_at l i j q') (a (was (length l) i j) (was_lt (length l) i j q'))

-- in a buffer whose first n are the column: the last of them is stored at i, and one less is left
pub swap_take : (l : List ℕ) (n i : ℕ) → n ≤ length l → i < n → take (n - 1) (set l i (get_or l (n - 1) 0)) ≡ swap_remove (take n l) i
unfolding swap_remove
swap_take l n i h k =
    rw (length-take-le n l h, get_or-take n l (n - 1) 0 (omega arith), ← take-set-lt n l i (get_or l (n - 1) 0) k)
    (sym (take-take (n - 1) n (set l i (get_or l (n - 1) 0)) (omega arith)))

-- parking changes no length
pub park-length : (x sc : ℕ) (ss : List ℕ) → length (park x sc ss) ≡ length ss
park-length x sc [] = refl
park-length x sc (s ∷ ss) = ap suc (park-length x sc ss)

pub park_at : (x sc : ℕ) (ss : List ℕ) (i : ℕ) → i < length ss → get_or (park x sc ss) i 0 ≡ pick (eqb (get_or ss i 0) x) sc (get_or ss i 0)
park_at x sc [] i h = absurd (not-suc-le-zero h)
park_at x sc (s ∷ ss) zero h = refl
park_at x sc (s ∷ ss) (suc i) h = park_at x sc ss i (le_of_suc-le-suc h)

-- what holds of each source and of sc still does where sources are parked
pub park-each : (P : ℕ → Type 0) (x sc : ℕ) (ss : List ℕ) → P sc → Each P ss → Each P (park x sc ss)
park-each P x sc ss z a j q =
    let q' : j < length ss = (rw park-length at q) in
    rw (park_at x sc ss j q') (pick-both P (eqb (get_or ss j 0) x) sc (get_or ss j 0) z (a j q'))
