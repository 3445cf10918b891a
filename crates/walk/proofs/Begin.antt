-- What stands before the first row: zeros, the first hints, the pool.
use Prim.Native.Nat.{ℕ, zero, suc, ◌+◌, ◌-◌, ◌<◌, ◌≤◌}
use mathlib.Core.List.{List, [], ◌++◌, append-nil}
use mathlib.Core.Path.{◌≡◌, refl, sym, ap, ap₂, ◌∙◌}
use native.Mathlib.Omega.{arith}
use native.Mathlib.Numerals.{add-one}
use lib.ListN.{length, set, take, replicate, length-take, drop_of_length-le}
use lib.Seq.{sets}
use Rattle.base.specs.Buffers.{filled_from, zero_from}
use Rattle.base.proofs.Lists.{sets-front}
use Rattle.alloc.specs.declared.Alloc.{Alloc}
use Rattle.alloc.specs.State.{fresh_of}
use Rattle.input.specs.Layout.{values, value_field}
use Rattle.rows.specs.Rows.{rows_of}
use Rattle.assign.specs.Walk.{walk, pool_of, first_hints, begin, assigned}
use Rattle.assign.specs.Fits.{Lent, run_rows}

pub zero_all : (l : List ℕ) (n : ℕ) → length l ≡ n → zero_from l 0 ≡ replicate n 0
unfolding filled_from
zero_all l n h = let e : length l - 0 ≡ n = omega arith in ap (λ (k : ℕ). replicate k 0) e

pub length-hints : (ws : List ℕ) (v n : ℕ) → length (first_hints ws v n) ≡ n
unfolding first_hints
length-hints ws v zero = refl
length-hints ws v (suc n) = ap suc (length-hints ws (v + 1) n)

pub length-pool : (n : ℕ) → length (pool_of n) ≡ n
unfolding pool_of
length-pool zero = refl
length-pool (suc n) = ap suc (length-pool n)

-- stores from the front of as many as there are
pub sets-whole : (l xs : List ℕ) → length l ≡ length xs → sets l 0 xs ≡ xs
sets-whole l xs h =
    sets-front l xs (omega arith) ∙ ap (λ (y : List ℕ). xs ++ y) (drop_of_length-le l {i = length xs} (omega arith)) ∙ append-nil xs

module _ (l : List ℕ) (v n : ℕ) where
  pub hints-next : (ws : List ℕ) → v < n
      → sets l v (first_hints ws v (n - v)) ≡ sets (set l v (value_field ws v 2)) (v + 1) (first_hints ws (v + 1) (n - (v + 1)))
  unfolding first_hints
  hints-next ws h =
      let e : n - v ≡ suc (n - (v + 1)) = omega arith in
      ap (λ (k : ℕ). sets l v (first_hints ws v k)) e ∙ rw (add-one v)

  pub hints_last : (ws : List ℕ) → n ≤ v → sets l v (first_hints ws v (n - v)) ≡ l
  unfolding first_hints
  hints_last ws h = let e : n - v ≡ 0 = omega arith in ap (λ (k : ℕ). sets l v (first_hints ws v k)) e

  pub pool-next : v < n → sets l v (pool_of (n - v)) ≡ sets (set l v (n - 1 - v)) (v + 1) (pool_of (n - (v + 1)))
  unfolding pool_of
  pool-next h =
      let e : n - v ≡ suc (n - (v + 1)) = omega arith in
      let e' : n - (v + 1) ≡ n - 1 - v = omega arith in
      ap (λ (k : ℕ). sets l v (pool_of k)) e
      ∙ ap (λ (k : ℕ). sets (set l v k) (suc v) (pool_of (n - (v + 1)))) e'
      ∙ ap (λ (k : ℕ). sets (set l v (n - 1 - v)) k (pool_of (n - (v + 1)))) (sym (add-one v))

  pub pool_last : n ≤ v → sets l v (pool_of (n - v)) ≡ l
  unfolding pool_of
  pool_last h = let e : n - v ≡ 0 = omega arith in ap (λ (k : ℕ). sets l v (pool_of k)) e

pub hints_all : (l : List ℕ) (n : ℕ) (ws : List ℕ) → sets l 0 (first_hints ws 0 (n - 0)) ≡ sets l 0 (first_hints ws 0 n)
hints_all l n ws = let e : n - 0 ≡ n = omega arith in ap (λ (k : ℕ). sets l 0 (first_hints ws 0 k)) e

pub pool_all : (l : List ℕ) (n : ℕ) → sets l 0 (pool_of (n - 0)) ≡ sets l 0 (pool_of n)
pool_all l n = let e : n - 0 ≡ n = omega arith in ap (λ (k : ℕ). sets l 0 (pool_of k)) e

pub pool-whole : (l : List ℕ) (n : ℕ) → n ≡ length l → sets l 0 (pool_of n) ≡ pool_of (length l)
pool-whole l n e = sets-whole l (pool_of n) (omega (arith, length-pool n)) ∙ ap pool_of e

-- buffers of the right lengths, whatever they held, and a fresh allocator are where the walk begins
pub assigned_is : (n : ℕ) (ws pool none map wish noted : List ℕ) (s : Alloc) (places wishes masks : List ℕ) → Lent ws map wish noted
    → pool ≡ pool_of (n - 2) → none ≡ [] → s ≡ fresh_of pool none → places ≡ zero_from map 0
    → wishes ≡ sets wish 0 (first_hints ws 0 (values ws)) → masks ≡ zero_from noted 0
    → run_rows ws pool 0 (rows_of ws) (walk s places wishes masks) ≡ assigned n ws
unfolding assigned begin
assigned_is n ws pool none map wish noted s places wishes masks l ep en es em ew ek =
    let f : s ≡ fresh_of (pool_of (n - 2)) [] = es ∙ ap₂ fresh_of ep en in
    let m : places ≡ replicate (values ws) 0 = em ∙ zero_all map (values ws) l.places in
    let h : wishes ≡ first_hints ws 0 (values ws) =
    ew ∙ sets-whole wish (first_hints ws 0 (values ws)) (l.wishes ∙ sym (length-hints ws 0 (values ws))) in
    let k : masks ≡ replicate (values ws) 0 = ek ∙ zero_all noted (values ws) l.masks in
    rw (f, m, h, k, ep)

-- the first N - 2 of an array of 64
pub pool-room : (n r : ℕ) (l : List ℕ) → r ≡ n → 22 ≤ n → n ≤ 64 → length l ≡ 64 → length (take (r - 2 - 0) l) ≡ n - 2
pool-room n r l e a b h = length-take (r - 2 - 0) l ∙ omega arith
