-- Tests joined by `&` are the chain of choices that a definition makes. Assumes nothing.
use mathlib.Core.Path.{◌≡◌, refl, ◌∙◌}
use mathlib.Core.Bool.{Bool, true, false, ◌&&◌}
use Rattle.input.specs.Forms.{both}

pub all_two : (p q : Bool) → (p && q) ≡ both p q
all_two true q = refl
all_two false q = refl

pub all_seven : (p q r s t u v : Bool)
    → ((((((p && q) && r) && s) && t) && u) && v) ≡ both p (both q (both r (both s (both t (both u v)))))
all_seven false q r s t u v = refl
all_seven true false r s t u v = refl
all_seven true true false s t u v = refl
all_seven true true true false t u v = refl
all_seven true true true true false u v = refl
all_seven true true true true true false v = refl
all_seven true true true true true true v = refl

-- a chain goes on, however it is grouped
pub both_rest : (p q r : Bool) → both (both p q) r ≡ both p (both q r)
both_rest true q r = refl
both_rest false q r = refl

-- the value of a chain behind one more test, which is made only where the chain has passed so far
pub goes : {p q v : Bool} → p ≡ true → v ≡ q → v ≡ both p q
goes e i = rw e i

pub stops : {p v : Bool} (q : Bool) → p ≡ false → v ≡ p → v ≡ both p q
stops q e i = rw e (i ∙ e)

-- a chain passes where both of its parts do
pub both-parts : (p q : Bool) → both p q ≡ true → (p ≡ true) × (q ≡ true)
both-parts true q e = (refl, e)
both-parts false q e = (e, let z : ◌≡◌ {A = Bool} false true = e in cc)

-- seven tests that all pass
pub record Seven (p q r s t u v : Bool) : Type 0 where
  pub first : p ≡ true
  pub second : q ≡ true
  pub third : r ≡ true
  pub fourth : s ≡ true
  pub fifth : t ≡ true
  pub sixth : u ≡ true
  pub seventh : v ≡ true

pub seven_parts : (p q r s t u v : Bool) → both p (both q (both r (both s (both t (both u v))))) ≡ true → Seven p q r s t u v
seven_parts p q r s t u v e =
    let e1 = both-parts p _ e in
    let e2 = both-parts q _ e1.1 in
    let e3 = both-parts r _ e2.1 in
    let e4 = both-parts s _ e3.1 in
    let e5 = both-parts t _ e4.1 in
    let e6 = both-parts u v e5.1 in
    record { first = e1.0; second = e2.0; third = e3.0; fourth = e4.0; fifth = e5.0; sixth = e6.0; seventh = e6.1 }
