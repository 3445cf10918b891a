-- Refusal 7: the keys that are left, with the smallest and the largest so far, answer for all of them.
use Rattle.std.proofs.Common.{◌≡◌, ℕ, suc, ◌+◌, ◌-◌, ◌^◌, ◌<◌, ◌≤◌, min, max, Bool, true, false, eqb, ltb, List, [], ◌∷◌, sym, refl, ap, ◌∙◌, ap₂, arith, eq-eqb, ne_eqb}
use Rattle.base.specs.Limits.{most_table_slots}
use Rattle.input.specs.Records.{constant_kind, int_const}
use Rattle.input.specs.Forms.{both}
use Rattle.fit.specs.Keys.{keys_at, all_int, ranked, largest, smallest, keys_ok}

-- the keys cs, and ranks from low to high before them
unfoldable pub keys_from : List ℕ → ℕ → ℕ → List ℕ → Bool
keys_from ws low high cs = both (all_int ws cs) (ltb (max high (largest ws cs) - min low (smallest ws cs)) most_table_slots)

pub smallest_most : (ws cs : List ℕ) → smallest ws cs ≤ 2 ^ 64 - 1
unfolding smallest
smallest_most ws [] = omega arith
smallest_most ws (c ∷ cs) = omega (arith, smallest_most ws cs)

-- before the first key: no rank yet
pub keys-start : (ws cs : List ℕ) → keys_from ws 18446744073709551615 0 cs ≡ keys_ok ws cs
unfolding keys_from keys_ok
keys-start ws cs =
    let e : max 0 (largest ws cs) ≡ largest ws cs = omega arith in
    let f : min 18446744073709551615 (smallest ws cs) ≡ smallest ws cs = omega (arith, smallest_most ws cs) in
    rw (e, f)

both-both : (a b x y : Bool) → x ≡ y → both (both a b) x ≡ both a (both b y)
both-both true b x y e = rw e
both-both false b x y e = refl

assoc_max : (a b c : ℕ) → max a (max b c) ≡ max (max a b) c
assoc_max a b c = omega arith

assoc_min : (a b c : ℕ) → min a (min b c) ≡ min (min a b) c
assoc_min a b c = omega arith

-- the first key is an Int, and its rank counts
keys-first : (ws : List ℕ) (low high c : ℕ) (cs : List ℕ)
    → keys_from ws low high (c ∷ cs) ≡ both (eqb (constant_kind ws c) int_const) (keys_from ws (min low (ranked ws c)) (max high (ranked ws c)) cs)
unfolding keys_from all_int largest smallest
keys-first ws low high c cs =
    both-both (eqb (constant_kind ws c) int_const) (all_int ws cs) _ _
    (ap₂ (λ (x y : ℕ). ltb (x - y) most_table_slots) (assoc_max high (ranked ws c) (largest ws cs)) (assoc_min low (ranked ws c) (smallest ws cs)))

module _ (ws : List ℕ) (low high step c left : ℕ) (whole : Bool) (so : keys_from ws low high (keys_at step c left) ≡ whole) where
  keys-turn : 0 < left
      → both (eqb (constant_kind ws c) int_const) (keys_from ws (min low (ranked ws c)) (max high (ranked ws c)) (keys_at step (c + step) (left - 1))) ≡ whole
  unfolding keys_at
  keys-turn h =
      let e : left ≡ suc (left - 1) = omega arith in
      sym (ap (λ (n : ℕ). keys_from ws low high (keys_at step c n)) e ∙ keys-first ws low high c (keys_at step (c + step) (left - 1))) ∙ so

  -- a key that is no Int
  pub keys_fail : 0 < left → (constant_kind ws c ≡ 3 → ⊥) → false ≡ whole
  keys_fail h k = rw (ne_eqb (constant_kind ws c) 3 k) at (keys-turn h)

  -- a key that is one
  pub keys_go : 0 < left → constant_kind ws c ≡ 3
      → keys_from ws (min low (ranked ws c)) (max high (ranked ws c)) (keys_at step (c + step) (left - 1)) ≡ whole
  keys_go h k = rw (eq-eqb (constant_kind ws c) 3 k) at (keys-turn h)

  -- no key left
  pub keys-end : left ≤ 0 → low ≤ 18446744073709551615 → ltb (high - low) most_table_slots ≡ whole
  unfolding keys_from keys_at all_int largest smallest
  keys-end h k =
      let e : left ≡ 0 = omega arith in
      let f : max high 0 ≡ high = omega arith in
      let g : min low 18446744073709551615 ≡ low = omega arith in
      rw (e, f, g) at so
