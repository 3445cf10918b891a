-- The loops that store the entries of a list.
use Prim.Native.Nat.{ℕ, suc, ◌+◌, ◌-◌, ◌≤◌, ◌<◌}
use mathlib.Core.Path.{◌≡◌, ap, ◌∙◌}
use mathlib.Core.List.{List}
use native.Mathlib.Nat.{sub-zero}
use native.Mathlib.Numerals.{add-one}
use native.Mathlib.Omega.{arith}
use lib.ListN.{length, set}
use lib.Seq.{sets, length-sets}
use Rattle.replay.specs.Words.{entries}

-- What is left to store, from i on, gives the whole.
pub record LeftToStore {A : Type 0} (f : ℕ → A) (n : ℕ) (l₀ l : List A) (i : ℕ) : Type 0 where
  pub so : sets l i (entries f i (n - i)) ≡ sets l₀ 0 (entries f 0 n)

-- before the first turn all is left
pub store-start : {A : Type 0} {f : ℕ → A} {n : ℕ} {l : List A} → LeftToStore f n l l 0
store-start {n} = record { so = rw (sub-zero n) }

-- a turn stores one entry
pub store-turn : {A : Type 0} {f : ℕ → A} {n i : ℕ} {x : A} {l₀ l l' : List A} → LeftToStore f n l₀ l i → i < n → x ≡ f i → l' ≡ set l i x
    → LeftToStore f n l₀ l' (i + 1)
unfolding entries
store-turn {n} {i} w h e s =
    let k : n - i ≡ suc (n - suc i) = omega arith in
    record { so = rw (s, e, add-one i) (rw (k, add-one i) at w.so) }

-- past the last turn nothing is left
pub store-end : {A : Type 0} {f : ℕ → A} {n i : ℕ} {l₀ l : List A} → LeftToStore f n l₀ l i → n ≤ i → l ≡ sets l₀ 0 (entries f 0 n)
unfolding entries
store-end {n} {i} w h = let k : n - i ≡ 0 = omega arith in rw k at w.so

-- the length stays
pub store_length : {A : Type 0} {f : ℕ → A} {n i : ℕ} {l₀ l : List A} → LeftToStore f n l₀ l i → n ≤ i → length l ≡ length l₀
store_length w h = ap length (store-end w h) ∙ simp length-sets
