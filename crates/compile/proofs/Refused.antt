-- The numbers of refusals from step to step, over plain numbers and tests: words w, used lengths d, the function's own refusal x, slots s,
-- places p, entry a, lists l, ops o.
use Prim.Native.Nat.{ℕ, ◌*◌, ◌/◌, ◌≤◌, ◌<◌, min}
use mathlib.Core.Bool.{Bool, true, false}
use mathlib.Core.Logic.{⊎_elim, ◌≢◌}
use mathlib.Core.Path.{◌≡◌, refl, ◌∙◌}
use native.Mathlib.Nat.{mul-le-mul_left, div-lt_iff_lt-mul, mul_comm}
use native.Mathlib.Omega.{arith}
use borrow.Author.Tests.{leb-true, ne_eqb}
use lib.Dec.{leb, eqb}
use Rattle.base.specs.Choice.{pick}
use Rattle.base.specs.Limits.{most_of_a_kind}
use Rattle.base.proofs.Numbers.{lt?}
use Rattle.input.specs.Forms.{both}
use Rattle.input.proofs.Chain.{both-parts}

-- none: the test passed, and what comes after it
pub passed : (t : Bool) (x k : ℕ) → 0 < k → 0 ≡ pick t x k → (t ≡ true) × (0 ≡ x)
passed true x k h e = (refl, e)
passed false x k h e = absurd (omega arith)

-- a refusal at each step is that of the whole
pub at_early : (w d : Bool) (x r k : ℕ) → k ≢ 0 → k ≡ pick w (pick d x 2) 1 → k ≡ pick w (pick d (pick (eqb x 0) r x) 2) 1
at_early false d x r k h e = e
at_early true false x r k h e = e
at_early true true x r k h e = let z : x ≢ 0 = λ (q : x ≡ 0). h (e ∙ q) in rw (ne_eqb x 0 z) e

pub at_places : (s p q : Bool) (k : ℕ) → k ≢ 0 → k ≡ pick s (pick p 0 9) 8 → k ≡ pick s (pick (both p q) 0 9) 8
at_places false p q k h e = e
at_places true false q k h e = e
at_places true true q k h e = absurd (h e)

pub at_test : (t q : Bool) (k : ℕ) → k ≢ 0 → k ≡ pick t 0 9 → k ≡ pick (both t q) 0 9
at_test false q k h e = e
at_test true q k h e = absurd (h e)

-- used records find room in words: of a kind at most 65,534
pub room_fits : (words used size : ℕ) → 1 ≤ words → both (leb (words * used) size) (leb used most_of_a_kind) ≡ true
    → words * used ≤ words * min (size / words) most_of_a_kind
room_fits words used size h e =
    let p = both-parts (leb (words * used) size) _ e in
    let a = leb-true (words * used) size p.0 in
    let few = leb-true used most_of_a_kind p.1 in
    ⊎_elim
    (λ (q : size / words < used).
    let b : size < used * words = (div-lt_iff_lt-mul {k = words} (omega arith)).0 q in
    absurd (omega (arith, mul_comm words used)))
    (λ (q : used ≤ size / words). let m : used ≤ min (size / words) most_of_a_kind = omega arith in mul-le-mul_left words m)
    (lt? (size / words) used)
