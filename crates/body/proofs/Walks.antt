-- The next live block, turn by turn.
use mathlib.Core.Path.{◌≡◌, sym, ◌∙◌}
use Prim.Native.Nat.{ℕ, suc, ◌+◌, ◌-◌, ◌≤◌, ◌<◌}
use mathlib.Core.List.{List}
use native.Mathlib.Omega.{arith}
use borrow.Author.Tests.{eq-eqb, ne_eqb}
use Rattle.input.specs.Records.{tombstone}
use Rattle.body.specs.Body.{next_live}

-- block j of those up to the end
module _ (ws : List ℕ) (j end : ℕ) {mark : ℕ} (e : mark ≡ tombstone ws j) (h : j < end) where
  pub next-found : mark ≡ 0 → j ≡ next_live ws j (end - j)
  unfolding next_live
  next-found f =
      let s : end - j ≡ suc (end - (j + 1)) = omega arith in
      rw (s, eq-eqb (tombstone ws j) 0 (sym e ∙ f))

  pub next_on : (mark ≡ 0 → ⊥) → next_live ws j (end - j) ≡ next_live ws (j + 1) (end - (j + 1))
  unfolding next_live
  next_on f =
      let s : end - j ≡ suc (end - (j + 1)) = omega arith in
      rw (s, ne_eqb (tombstone ws j) 0 (λ (q : tombstone ws j ≡ 0). f (e ∙ q)))

pub next_none : (ws : List ℕ) (j end : ℕ) → j ≤ end → end ≤ j → end ≡ next_live ws j (end - j)
unfolding next_live
next_none ws j end h g =
    let s : end - j ≡ 0 = omega arith in
    let t : j ≡ end = omega arith in
    rw (s, t)
