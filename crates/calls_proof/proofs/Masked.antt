-- The registers of a mask from one register on: each of them below the end, no other, and no more than there are registers.
use mathlib.Core.Path.{◌≡◌, refl, sym, ap, ◌∙◌}
use mathlib.Core.Logic.{◌≢◌, ⊎_elim}
use Prim.Native.Nat.{ℕ, zero, suc, ◌+◌, ◌-◌, ◌≤◌, ◌<◌, zero-le, suc-le-suc}
use mathlib.Core.List.{◌∷◌}
use mathlib.Core.Bool.{Bool, true, false, true≢false}
use native.Mathlib.Omega.{arith}
use borrow.Author.Tests.{eq-eqb, ne_eqb}
use lib.ListN.{length}
use Rattle.base.specs.Choice.{pick}
use Rattle.base.specs.Lists.{among}
use Rattle.base.specs.Masks.{has_bit}
use Rattle.base.proofs.Numbers.{lt?, same?}
use Rattle.machine.specs.Calls.{Kind, function, builtin, kept_from}
use Rattle.calls.specs.Calls.{masked_from, pushed_below, pushed_for}

-- none before the first
masked_before : (mask r k x : ℕ) → x < r → among x (masked_from mask r k) ≡ false
unfolding masked_from
masked_before mask r zero x h = refl
masked_before mask r (suc k) x h = go (has_bit mask r) (masked_before mask (r + 1) k x (omega arith))
  where
    go : (b : Bool) → among x (masked_from mask (r + 1) k) ≡ false
        → among x (pick b (r ∷ masked_from mask (r + 1) k) (masked_from mask (r + 1) k)) ≡ false
    go true ih = rw (ne_eqb x r (omega arith)) ih
    go false ih = ih

-- from the first to the last those of the mask
masked_in : (mask r k x : ℕ) → r ≤ x → x < r + k → among x (masked_from mask r k) ≡ has_bit mask x
unfolding masked_from
masked_in mask r zero x h l = absurd (omega arith)
masked_in mask r (suc k) x h l = ⊎_elim (here (has_bit mask r) refl) (there (has_bit mask r) (masked_in mask (r + 1) k x)) (same? x r)
  where
    here : (b : Bool) → has_bit mask r ≡ b → x ≡ r
        → among x (pick b (r ∷ masked_from mask (r + 1) k) (masked_from mask (r + 1) k)) ≡ has_bit mask x
    here true f e = rw (eq-eqb x r e, e) (sym f)
    here false f e = masked_before mask (r + 1) k x (omega arith) ∙ sym (ap (has_bit mask) e ∙ f)

    there : (b : Bool) → (r + 1 ≤ x → x < r + 1 + k → among x (masked_from mask (r + 1) k) ≡ has_bit mask x)
        → x ≢ r → among x (pick b (r ∷ masked_from mask (r + 1) k) (masked_from mask (r + 1) k)) ≡ has_bit mask x
    there true ih e = rw (ne_eqb x r e) (ih (omega arith) (omega arith))
    there false ih e = ih (omega arith) (omega arith)

-- none past the last
masked_past : (mask r k x : ℕ) → r + k ≤ x → among x (masked_from mask r k) ≡ false
unfolding masked_from
masked_past mask r zero x h = refl
masked_past mask r (suc k) x h = go (has_bit mask r) (masked_past mask (r + 1) k x (omega arith))
  where
    go : (b : Bool) → among x (masked_from mask (r + 1) k) ≡ false
        → among x (pick b (r ∷ masked_from mask (r + 1) k) (masked_from mask (r + 1) k)) ≡ false
    go true ih = rw (ne_eqb x r (omega arith)) ih
    go false ih = ih

-- no more than there are registers
masked_few : (mask r k : ℕ) → length (masked_from mask r k) ≤ k
unfolding masked_from
masked_few mask r zero = zero-le
masked_few mask r (suc k) = go (has_bit mask r) (masked_few mask (r + 1) k)
  where
    go : (b : Bool) → length (masked_from mask (r + 1) k) ≤ k
        → length (pick b (r ∷ masked_from mask (r + 1) k) (masked_from mask (r + 1) k)) ≤ suc k
    go true ih = suc-le-suc ih
    go false ih = omega arith

-- ---- the registers that a call pushes
module _ (kind : Kind) (noted arguments : ℕ) where
  -- a noted register below the limit is pushed
  pub pushed_in : (x : ℕ) → has_bit noted x ≡ true → x < pushed_below kind arguments → among x (pushed_for kind noted arguments) ≡ true
  pushed_in x h l = masked_in noted 0 (pushed_below kind arguments) x zero-le (omega arith) ∙ h

  -- one from the limit on is not
  pub pushed-past : (x : ℕ) → pushed_below kind arguments ≤ x → among x (pushed_for kind noted arguments) ≡ false
  pushed-past x h = masked_past noted 0 (pushed_below kind arguments) x (omega arith)

  -- what is pushed is below the limit
  pub pushed_low : (x : ℕ) → among x (pushed_for kind noted arguments) ≡ true → x < pushed_below kind arguments
  pushed_low x h =
      ⊎_elim (λ (q : x < pushed_below kind arguments). q)
      (λ (q : pushed_below kind arguments ≤ x). absurd (true≢false (sym h ∙ pushed-past x q)))
      (lt? x (pushed_below kind arguments))

  -- and is noted
  pub pushed-noted : (x : ℕ) → among x (pushed_for kind noted arguments) ≡ true → has_bit noted x ≡ true
  pushed-noted x h =
      let q : x < pushed_below kind arguments = pushed_low x h in
      sym (masked_in noted 0 (pushed_below kind arguments) x zero-le (omega arith)) ∙ h

  pub pushed_few : length (pushed_for kind noted arguments) ≤ pushed_below kind arguments
  pushed_few = masked_few noted 0 (pushed_below kind arguments)

-- the limit is in the pool, or its end
pub limit_few : (n : ℕ) (kind : Kind) (arguments : ℕ) → 22 ≤ n → arguments ≤ n - 2 → pushed_below kind arguments ≤ n - 2
limit_few n function arguments lo h = omega arith
limit_few n builtin arguments lo h = omega arith

-- a register from the limit on is one that the called code keeps, and no argument's
pub limit_kept : (kind : Kind) (arguments r : ℕ) → pushed_below kind arguments ≤ r → (kept_from kind ≤ r) × (arguments ≤ r)
limit_kept function arguments r h = (omega arith, omega arith)
limit_kept builtin arguments r h = (omega arith, omega arith)
