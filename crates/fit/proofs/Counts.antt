-- One law for every loop that counts from 0 to n, over a list of the pool or over edges.
use Rattle.std.proofs.Common.{◌≡◌, ℕ, zero, suc, ◌+◌, ◌-◌, ◌<◌, ◌≤◌, Bool, true, sym, ap, ◌∙◌, arith}
use Rattle.input.specs.Forms.{both, each}

-- F j k speaks of the k things from the j-th on, whole n of all n of them, and a step goes from one to the next
pub record Counted {A : Type 0} (F : ℕ → ℕ → A) (whole : ℕ → A) (last : A) (step : ℕ → A → A) : Type 0 where
  pub starts : (n : ℕ) → F 0 n ≡ whole n
  pub turns : (j k : ℕ) → F j (suc k) ≡ step j (F (j + 1) k)
  pub ends : (j : ℕ) → F j zero ≡ last

module _ {A : Type 0} {F : ℕ → ℕ → A} {whole : ℕ → A} {last : A} {step : ℕ → A → A} (law : Counted F whole last step) (n : ℕ) where
  pub counted_start : F 0 (n - 0) ≡ whole n
  counted_start = let e : n - 0 ≡ n = omega arith in ap (F 0) e ∙ law.starts n

  pub counted-turn : (j : ℕ) → j < n → F j (n - j) ≡ step j (F (j + 1) (n - (j + 1)))
  counted-turn j h = let e : n - j ≡ suc (n - (j + 1)) = omega arith in ap (F j) e ∙ law.turns j (n - (j + 1))

  pub counted-end : (j : ℕ) → n ≤ j → F j (n - j) ≡ last
  counted-end j h = let e : n - j ≡ 0 = omega arith in ap (F j) e ∙ law.ends j

-- a check of each
pub record Checked (F : ℕ → ℕ → Bool) (whole ok : ℕ → Bool) : Type 0 where
  pub law : Counted F whole true (λ (j : ℕ). both (ok j))

-- is the check of the first n numbers
pub checked_each : {F : ℕ → ℕ → Bool} {whole ok : ℕ → Bool} → Checked F whole ok → (n : ℕ) → whole n ≡ each ok 0 n
unfolding each
checked_each {F} {whole} {ok} all n = sym (all.law.starts n) ∙ from 0 n where
  from : (j k : ℕ) → F j k ≡ each ok j k
  from j zero = all.law.ends j
  from j (suc k) = all.law.turns j k ∙ ap (both (ok j)) (from (j + 1) k)
