-- Which numbers are ours: registers of the pools, as masks have them, and slots that were made.
use mathlib.Core.Path.{◌≡◌, refl, sym, ap, ◌∙◌}
use mathlib.Core.Logic.{⊎_elim, ◌≢◌}
use mathlib.Core.Bool.{Bool, true, false}
use mathlib.Core.List.{List, [], ◌∷◌, ◌++◌}
use Prim.Native.Nat.{ℕ, zero, suc, ◌+◌, ◌-◌, ◌^◌, ◌≤◌, ◌<◌, min}
use native.Mathlib.Omega.{arith}
use lib.Bits.{bit_and, and_le_l}
use lib.Dec.{ltb, eqb}
use borrow.Author.Tests.{ltb-true, lt-ltb, le-ltb, eqb-true, eq-eqb, ne_eqb}
use Rattle.base.specs.Choice.{pick}
use Rattle.base.specs.Lists.{among, distinct}
use Rattle.base.specs.Masks.{digit, has_bit, with_bit}
use Rattle.base.proofs.Masks.{digit_and, has_none, has-with-same, has-with_other, has_ext}
use Rattle.base.proofs.Numbers.{both, same?, lt?, pick-both}
use Rattle.place.specs.Places.{slots_from, floats_from}
use Rattle.alloc.specs.State.{mask_of}
use Rattle.alloc_state.specs.Judged.{all_below, in_mask, ours, all_ours}
use Rattle.alloc_state.specs.Marks.{within}
use Rattle.alloc_state.proofs.Distinct.{true-not-false, clash, and_intro, and_left, and_right, among_case, among-append}

-- ---- pool lists
pub below_each : (xs : List ℕ) → all_below xs ≡ true → (k : ℕ) → among k xs ≡ true → k < 64
below_each [] b k a = absurd (true-not-false (sym a))
below_each (x ∷ xs) b k a =
    among_case k x xs a (λ e. omega (arith, e, ltb-true x 64 (and_left (ltb x 64) (all_below xs) b)))
    (λ h. below_each xs (and_right (ltb x 64) (all_below xs) b) k h)

pub has-with : (m x k : ℕ) → x < 64 → has_bit (with_bit m x) k ≡ pick (eqb k x) true (has_bit m k)
has-with m x k l =
    ⊎_elim
    (λ (e : k ≡ x). rw (e, eq-eqb x x refl) (has-with-same m x l))
    (λ (e : k ≢ x). rw (ne_eqb k x e) (has-with_other m x k e))
    (same? k x)

-- the mask of a pool has the pool's numbers
or_turn : (a b c : Bool) → pick b true (pick a true c) ≡ pick (pick a true b) true c
or_turn true true c = refl
or_turn true false c = refl
or_turn false b c = refl

mask_has : (xs : List ℕ) (m k : ℕ) → all_below xs ≡ true → has_bit (mask_of m xs) k ≡ pick (among k xs) true (has_bit m k)
unfolding mask_of
mask_has [] m k b = refl
mask_has (x ∷ xs) m k b =
    mask_has xs (with_bit m x) k (and_right (ltb x 64) (all_below xs) b)
    ∙ rw (has-with m x k (ltb-true x 64 (and_left (ltb x 64) (all_below xs) b))) (or_turn (eqb k x) (among k xs) (has_bit m k))

or_none : (a : Bool) → pick a true false ≡ a
or_none true = refl
or_none false = refl

pub pool-has : (xs : List ℕ) (k : ℕ) → all_below xs ≡ true → has_bit (mask_of 0 xs) k ≡ among k xs
pool-has xs k b = mask_has xs 0 k b ∙ rw (has_none k) (or_none (among k xs))

-- ---- the numbers of a mask
mask_before : (m from r n p : ℕ) → p < from + r → among p (in_mask m from r n) ≡ false
unfolding in_mask
mask_before m from r zero p h = refl
mask_before m from r (suc n) p h =
    let ih : among p (in_mask m from (suc r) n) ≡ false = mask_before m from (suc r) n p (omega arith) in
    pick-both (λ (l : List ℕ). among p l ≡ false) (has_bit m r) _ _
    (rw (ne_eqb p (from + r) (λ e. omega (arith, e))) ih) ih

mask_after : (m from r n p : ℕ) → from + r + n ≤ p → among p (in_mask m from r n) ≡ false
unfolding in_mask
mask_after m from r zero p h = refl
mask_after m from r (suc n) p h =
    let ih : among p (in_mask m from (suc r) n) ≡ false = mask_after m from (suc r) n p (omega arith) in
    pick-both (λ (l : List ℕ). among p l ≡ false) (has_bit m r) _ _
    (rw (ne_eqb p (from + r) (λ e. omega (arith, e))) ih) ih

in-here : (m from r n : ℕ) (t : Bool) → has_bit m r ≡ t → among (from + r) (pick t ((from + r) ∷ in_mask m from (suc r) n) (in_mask m from (suc r) n)) ≡ t
unfolding in_mask
in-here m from r n true e = rw (eq-eqb (from + r) (from + r) refl)
in-here m from r n false e = mask_before m from (suc r) n (from + r) (omega arith)

pub mask_in : (m from r n k : ℕ) → r ≤ k → k < r + n → among (from + k) (in_mask m from r n) ≡ has_bit m k
unfolding in_mask
mask_in m from r zero k h l = absurd (omega arith)
mask_in m from r (suc n) k h l =
    ⊎_elim
    (λ (e : k ≡ r). rw e (in-here m from r n (has_bit m r) refl))
    (λ (e : k ≢ r).
    let ih : among (from + k) (in_mask m from (suc r) n) ≡ has_bit m k = mask_in m from (suc r) n k (omega arith) (omega arith) in
    pick-both (λ (l : List ℕ). among (from + k) l ≡ has_bit m k) (has_bit m r) _ _
    (rw (ne_eqb (from + k) (from + r) (λ q. e (omega (arith, q)))) ih) ih)
    (same? k r)

-- all 64 of a mask
pub whole_out : (m from p : ℕ) → (p < from) → among p (in_mask m from 0 64) ≡ false
whole_out m from p h = mask_before m from 0 64 p (omega arith)

pub whole-past : (m from p : ℕ) → from + 64 ≤ p → among p (in_mask m from 0 64) ≡ false
whole-past m from p h = mask_after m from 0 64 p (omega arith)

-- a number that is among them is one of the mask
pub record From (m from p : ℕ) : Type 0 where
  pub k : ℕ
  pub is : p ≡ from + k
  pub low : k < 64
  pub has : has_bit m k ≡ true

pub whole_back : (m from p : ℕ) → among p (in_mask m from 0 64) ≡ true → From m from p
whole_back m from p a =
    ⊎_elim
    (λ (h : p < from). absurd (clash a (whole_out m from p h)))
    (λ (h : from ≤ p).
    ⊎_elim
    (λ (l : p < from + 64).
    let e : p ≡ from + (p - from) = omega arith in
    let q : among (from + (p - from)) (in_mask m from 0 64) ≡ true = rw (← e) a in
    record {
      k = p - from;
      is = e;
      low = omega arith;
      has = sym (mask_in m from 0 64 (p - from) (omega arith) (omega arith)) ∙ q;
    })
    (λ (l : from + 64 ≤ p). absurd (clash a (whole-past m from p l)))
    (lt? p (from + 64)))
    (lt? p from)

-- none twice, before others that are none of them
pub mask_distinct : (m from r n : ℕ) (ys : List ℕ) → distinct ys ≡ true → ((p : ℕ) → from + r ≤ p → p < from + r + n → among p ys ≡ false)
    → distinct (in_mask m from r n ++ ys) ≡ true
unfolding in_mask
mask_distinct m from r zero ys d h = d
mask_distinct m from r (suc n) ys d h =
    let ih : distinct (in_mask m from (suc r) n ++ ys) ≡ true =
    mask_distinct m from (suc r) n ys d (λ p a b. h p (omega arith) (omega arith)) in
    let e : among (from + r) (in_mask m from (suc r) n ++ ys) ≡ false =
    among-append (from + r) (in_mask m from (suc r) n) ys
    ∙ rw (mask_before m from (suc r) n (from + r) (omega arith)) (h (from + r) (omega arith) (omega arith)) in
    pick-both (λ (l : List ℕ). distinct (l ++ ys) ≡ true) (has_bit m r) _ _ (rw (e, ih)) ih

-- ---- one mask within another
bit-digit : (m k : ℕ) → has_bit m k ≡ true → digit m k ≡ 1
unfolding has_bit
bit-digit m k e = eqb-true (digit m k) 1 e

digit-bit : (m k : ℕ) → digit m k ≡ 1 → has_bit m k ≡ true
unfolding has_bit
digit-bit m k e = eq-eqb (digit m k) 1 e

pub within-each : (a b : ℕ) → within a b ≡ true → (k : ℕ) → has_bit a k ≡ true → has_bit b k ≡ true
within-each a b w k h =
    let e : bit_and a b ≡ a = eqb-true (bit_and a b) a w in
    let d : digit a k ≡ min (digit a k) (digit b k) = sym (ap (λ (x : ℕ). digit x k) e) ∙ digit_and a b k in
    digit-bit b k (omega (arith, bit-digit a k h, d, small b k))
  where
    small : (m k : ℕ) → digit m k ≤ 1
    small m k = omega arith

pub each_within : (a b : ℕ) → a < 2 ^ 64 → ((k : ℕ) → k < 64 → has_bit a k ≡ true → has_bit b k ≡ true) → within a b ≡ true
each_within a b l h =
    eq-eqb (bit_and a b) a
    (has_ext 64 (bit_and a b) a (omega (arith, and_le_l a b)) l
    (λ k q.
    ⊎_elim
    (λ (e : has_bit a k ≡ true).
    digit-bit (bit_and a b) k (omega (arith, digit_and a b k, bit-digit a k e, bit-digit b k (h k q e))) ∙ sym e)
    (λ (e : has_bit a k ≡ false). none a b k e ∙ sym e)
    (both (has_bit a k))))
  where
    none : (a b k : ℕ) → has_bit a k ≡ false → has_bit (bit_and a b) k ≡ false
    none a b k e =
        ⊎_elim
        (λ (q : has_bit (bit_and a b) k ≡ true).
        absurd (clash (digit-bit a k (omega (arith, digit_and a b k, bit-digit (bit_and a b) k q, small b k, small a k))) e))
        (λ (q : has_bit (bit_and a b) k ≡ false). q)
        (both (has_bit (bit_and a b) k))
      where
        small : (m k : ℕ) → digit m k ≤ 1
        small m k = omega arith

-- ---- what is ours
module _ (gprs fprs : List ℕ) (made : ℕ) where
  pub ours_gpr : (k : ℕ) → k < slots_from → ours gprs fprs made k ≡ among k gprs
  ours_gpr k h = rw (lt-ltb k slots_from h)

  pub ours-slot : (k : ℕ) → k < 65536 → ours gprs fprs made (slots_from + k) ≡ ltb k made
  ours-slot k h =
      let e : slots_from + k - slots_from ≡ k = omega arith in
      rw (le-ltb (slots_from + k) slots_from (omega arith), lt-ltb (slots_from + k) floats_from (omega arith), e)

  pub ours_fpr : (k : ℕ) → ours gprs fprs made (floats_from + k) ≡ among k fprs
  ours_fpr k =
      let e : floats_from + k - floats_from ≡ k = omega arith in
      rw (le-ltb (floats_from + k) slots_from (omega arith), le-ltb (floats_from + k) floats_from (omega arith), e)

  pub ours-append : (xs ys : List ℕ) → all_ours gprs fprs made (xs ++ ys) ≡ pick (all_ours gprs fprs made xs) (all_ours gprs fprs made ys) false
  ours-append [] ys = refl
  ours-append (x ∷ xs) ys =
      rw (ours-append xs ys) (assoc (ours gprs fprs made x) (all_ours gprs fprs made xs) (all_ours gprs fprs made ys))
    where
      assoc : (a b c : Bool) → pick a (pick b c false) false ≡ pick (pick a b false) c false
      assoc true b c = refl
      assoc false b c = refl

  pub ours-each : (xs : List ℕ) → all_ours gprs fprs made xs ≡ true → (p : ℕ) → among p xs ≡ true → ours gprs fprs made p ≡ true
  ours-each [] h p a = absurd (true-not-false (sym a))
  ours-each (x ∷ xs) h p a =
      among_case p x xs a (λ e. rw e (and_left (ours gprs fprs made x) (all_ours gprs fprs made xs) h))
      (λ q. ours-each xs (and_right (ours gprs fprs made x) (all_ours gprs fprs made xs) h) p q)

  pub each-ours : (xs : List ℕ) → ((p : ℕ) → among p xs ≡ true → ours gprs fprs made p ≡ true) → all_ours gprs fprs made xs ≡ true
  each-ours [] h = refl
  each-ours (x ∷ xs) h =
      and_intro (ours gprs fprs made x) (all_ours gprs fprs made xs) (h x (rw (eq-eqb x x refl)))
      (each-ours xs (λ p a. h p (pick-both (λ (t : Bool). t ≡ true) (eqb p x) true (among p xs) refl a)))
