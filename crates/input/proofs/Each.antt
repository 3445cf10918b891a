-- A chain that tests one record after the other, and what a whole table that passed says of each record. Assumes nothing.
use mathlib.Core.Path.{◌≡◌, refl, ◌∙◌}
use mathlib.Core.Bool.{Bool, true, false, ◌&&◌}
use mathlib.Core.List.{List}
use Prim.Native.Nat.{ℕ, zero, suc, ◌+◌, ◌-◌, ◌<◌}
use native.Mathlib.Omega.{arith}
use denote.Param.Members.{Mut}
use Rattle.std.specs.declared.ops.Range.{Range}
use Rattle.std.proofs.Common.{Option}
use Rattle.std.specs.Fn.{Called}
use Rattle.std.specs.Iterator.{YieldsThen}
use Rattle.std.proofs.iter.Yields.{nat_range_steps}
use Rattle.std.specs.List.{FoldsTo, list_all, range_with_len}
use Rattle.std.specs.Option.{MatchOption}
use Rattle.std.proofs.lemmas.Iterator.{YieldsList-from_range}
use Rattle.std.proofs.lemmas.Iterator.Search.{all_from_yields_List}
use Rattle.base.specs.Choice.{pick}
use Rattle.input.specs.Forms.{each}
use Rattle.input.proofs.Chain.{both-parts}

-- where all n from k on pass, each does
pub each_at : (ok : ℕ → Bool) (k n : ℕ) → each ok k n ≡ true → (j : ℕ) → j < n → ok (k + j) ≡ true
unfolding each
each_at ok k zero e j h = absurd (omega arith)
each_at ok k (suc n) e zero h = let z : k + 0 ≡ k = omega arith in rw z (both-parts (ok k) (each ok (k + 1) n) e).0
each_at ok k (suc n) e (suc j) h =
    let z : k + suc j ≡ k + 1 + j = omega arith in
    rw z (each_at ok (k + 1) n (both-parts (ok k) (each ok (k + 1) n) e).1 j (omega arith))

-- where the first n pass, each of them does
pub each_first : (ok : ℕ → Bool) (n : ℕ) → each ok 0 n ≡ true → (j : ℕ) → j < n → ok j ≡ true
each_first ok n e j h = let z : 0 + j ≡ j = omega arith in rw z at (each_at ok 0 n e j h)

-- A chain that tests the numbers from a up to b, one by one.
list_each : (ok : ℕ → Bool) (k n : ℕ) → list_all ok (range_with_len k n) ≡ each ok k n
unfolding each
list_each ok k zero = refl
list_each ok k (suc n) = rw (list_each ok (k + 1) n) (joined (ok k) (each ok (k + 1) n)) where
  joined : (p q : Bool) → (p && q) ≡ pick p q false
  joined true q = refl
  joined false q = refl

pub each_from_all : {F : Type 0} {g : Mut F (ℕ × Unit {0}) Bool} {a b n : ℕ} {u : Range ℕ} {f : F} {r : Bool} (ok : ℕ → Bool) → b - a ≡ n
    → (xs : List ℕ) × (o : Option ℕ) × (j : F) × YieldsThen nat_range_steps (record { start = a; end = b }) xs o u × FoldsTo (λ p x q. Called g p (x, tt) true q) f xs j
    × MatchOption o (r ≡ true) (λ x. (r ≡ false) × ((h : F) × Called g j (x, tt) false h))
    → ((x : ℕ) (y : Bool) (q : F) → Called g f (x, tt) y q → (q ≡ f) × (y ≡ ok x)) → r ≡ each ok a n
each_from_all {a = a} {b = b} {n = n} {u = u} {f = f} {r = r} ok e ran so =
    all_from_yields_List ok u f r ran (YieldsList-from_range a b n refl e) so ∙ list_each ok a n
