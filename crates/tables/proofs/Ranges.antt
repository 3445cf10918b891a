-- The least and the greatest rank of a table's keys, and what is known of them and of the keys between.
use Rattle.std.proofs.Common.{◌≡◌, ℕ, zero, suc, ◌+◌, ◌-◌, ◌*◌, ◌<◌, ◌≤◌, min, max, List, ap, ◌∙◌, mul-zero, mul-suc, arith}
use Rattle.fit.specs.Keys.{keys_at, ranked, largest, smallest}
use Rattle.fit.proofs.Ranks.{smallest_most}
use Rattle.ready.specs.Ready.{KeysReady}
use Rattle.tables.specs.Tables.{slot_count}

-- every key is between them
pub key_within : (ws : List ℕ) (step c n j : ℕ) → j < n
    → (smallest ws (keys_at step c n) ≤ ranked ws (c + step * j)) × (ranked ws (c + step * j) ≤ largest ws (keys_at step c n))
unfolding keys_at smallest largest
key_within ws step c zero j h = absurd (omega arith)
key_within ws step c (suc n) zero h =
    let e : c + step * 0 ≡ c = rw (mul-zero step) (omega arith) in
    rw e (omega arith, omega arith)
key_within ws step c (suc n) (suc j) h =
    let e : c + step * suc j ≡ c + step + step * j = rw (mul-suc step j) (omega arith) in
    let i = key_within ws step (c + step) n j (omega arith) in
    rw e (omega (arith, i.0), omega (arith, i.1))

module _ (ws : List ℕ) (step c n low : ℕ) (is : low ≡ smallest ws (keys_at step c n)) (j : ℕ) (h : j < n) where
  pub key_low : low ≤ ranked ws (c + step * j)
  key_low = rw is (key_within ws step c n j h).0

  -- the slot of a key is one of the table's
  pub key_slot : KeysReady ws step c n → ranked ws (c + step * j) - low < 4096
  key_slot k = let i = key_within ws step c n j h in rw is (omega (arith, i.0, i.1, k.near))

-- the same of keys that stand one behind the other
module _ (ws : List ℕ) (c n low : ℕ) (is : low ≡ smallest ws (keys_at 1 c n)) (j : ℕ) (h : j < n) where
  pub case_low : low ≤ ranked ws (c + j)
  case_low = let e : c + 1 * j ≡ c + j = omega arith in rw e at (key_low ws 1 c n low is j h)

  pub case_slot : KeysReady ws 1 c n → ranked ws (c + j) - low < 4096
  case_slot k = let e : c + 1 * j ≡ c + j = omega arith in rw e at (key_slot ws 1 c n low is j h k)

-- The keys from the j-th on, with the least and the greatest rank so far, give those of all.
abbrev pub RangeLeft : List ℕ → ℕ → ℕ → ℕ → ℕ → ℕ → ℕ → Type 0
RangeLeft ws step first n low high j =
    (min low (smallest ws (keys_at step (first + step * j) (n - j))) ≡ smallest ws (keys_at step first n))
    × (max high (largest ws (keys_at step (first + step * j) (n - j))) ≡ largest ws (keys_at step first n))

pub range_start : (ws : List ℕ) (step first n : ℕ) → RangeLeft ws step first n 18446744073709551615 0 0
range_start ws step first n =
    let s = smallest_most ws (keys_at step first n) in
    let c : first + step * 0 ≡ first = rw (mul-zero step) (omega arith) in
    let z : n - 0 ≡ n = omega arith in
    rw (c, z) (omega arith, omega arith)

module _ (ws : List ℕ) (step first n low high j : ℕ) (s : RangeLeft ws step first n low high j) where
  pub range_turn : j < n → RangeLeft ws step first n (min low (ranked ws (first + step * j))) (max high (ranked ws (first + step * j))) (j + 1)
  unfolding keys_at smallest largest
  range_turn h =
      let c = first + step * j in
      let k : n - j ≡ suc (n - (j + 1)) = omega arith in
      let x : c + step ≡ first + step * (j + 1) = omega arith in
      let a : smallest ws (keys_at step c (n - j)) ≡ min (ranked ws c) (smallest ws (keys_at step (first + step * (j + 1)) (n - (j + 1)))) =
      ap (λ (m : ℕ). smallest ws (keys_at step c m)) k ∙ ap (λ (d : ℕ). min (ranked ws c) (smallest ws (keys_at step d (n - (j + 1))))) x in
      let z : largest ws (keys_at step c (n - j)) ≡ max (ranked ws c) (largest ws (keys_at step (first + step * (j + 1)) (n - (j + 1)))) =
      ap (λ (m : ℕ). largest ws (keys_at step c m)) k ∙ ap (λ (d : ℕ). max (ranked ws c) (largest ws (keys_at step d (n - (j + 1))))) x in
      (omega (arith, a, s.0), omega (arith, z, s.1))

  range_end : n ≤ j → low ≤ 18446744073709551615
      → (low ≡ smallest ws (keys_at step first n)) × (high ≡ largest ws (keys_at step first n))
  unfolding keys_at smallest largest
  range_end h k =
      let e : n - j ≡ 0 = omega arith in
      let a : smallest ws (keys_at step (first + step * j) (n - j)) ≡ 18446744073709551615 = ap (λ (m : ℕ). smallest ws (keys_at step (first + step * j) m)) e in
      let z : largest ws (keys_at step (first + step * j) (n - j)) ≡ 0 = ap (λ (m : ℕ). largest ws (keys_at step (first + step * j) m)) e in
      (omega (arith, a, s.0), omega (arith, z, s.1))

  pub range_near : n ≤ j → low ≤ 18446744073709551615 → KeysReady ws step first n → (low ≤ high) × (high - low < 4096)
  range_near h m k =
      let e = range_end h m in
      let i = key_within ws step first n 0 (omega (arith, k.some)) in
      (omega (arith, e.0, e.1, i.0, i.1), rw (e.0, e.1) k.near)

  pub range_done : n ≤ j → low ≤ 18446744073709551615 → KeysReady ws step first n
      → (low ≡ smallest ws (keys_at step first n)) × (high - low + 1 ≡ slot_count ws (keys_at step first n)) × (high - low + 1 ≤ 4096)
  unfolding slot_count
  range_done h m k =
      let e = range_end h m in
      (e.0, rw (e.0, e.1), rw (e.0, e.1) (omega (arith, k.near)))

pub few_slots : {ws : List ℕ} {step c n : ℕ} → KeysReady ws step c n → slot_count ws (keys_at step c n) ≤ 4096
unfolding slot_count
few_slots k = omega (arith, k.near)
