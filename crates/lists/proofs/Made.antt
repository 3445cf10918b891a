-- What the used lengths of made lists say: so many words stand in each buffer, and they are the list.
use Rattle.std.specs.Prelude.{Ok}
use mathlib.Core.Path.{◌≡◌, refl, ap, ◌∙◌}
use mathlib.Core.Bool.{Bool, true, false}
use Prim.Native.Nat.{ℕ, ◌+◌, ◌*◌, ◌/◌, ◌≤◌}
use mathlib.Core.List.{List, [], ◌∷◌, ◌++◌}
use native.Mathlib.Omega.{arith}
use lib.ListN.{length, take, drop, length-append}
use lib.Seq.{sets, length-sets, length-take-le, take_at}
use Rattle.base.specs.Choice.{pick}
use Rattle.base.proofs.Lists.{sets-front}
use Rattle.input.specs.Layout.{values}
use Rattle.interning.specs.Interning.{globals_after}
use Rattle.lists.specs.declared.Used.{Used}
use Rattle.lists.specs.Lists.{Lists, lists_after, lists_fit, global_words, Started, Made, Listed}
use Rattle.lists.proofs.Sizes.{room-lent}
use Rattle.lists.proofs.Kept.{globals_keep, targets_start}
use Rattle.lists.proofs.Making.{fits_parts}

-- the first n words of a buffer are the list
pub record Stands (n : ℕ) (b l : List ℕ) : Type 0 where
  pub there : n ≤ length b
  pub taken : take n b ≡ l

stands : (b l : List ℕ) {b' : List ℕ} {n : ℕ} → n ≡ length l → b' ≡ sets b 0 l → length l ≤ length b → Stands n b' l
stands b l {b'} {n} s is h =
    let e : length b' ≡ length b = ap length is ∙ length-sets b 0 l in
    record { there = omega arith; taken = rw (is, s, sets-front b l h) (take_at l (drop (length l) b) (length l) refl) }

-- globals are pairs
globals_even : (ws b : List ℕ) (used : ℕ) → 2 * used ≤ length b
    → 2 * (length (globals_after ws (take (2 * used) b)) / 2) ≡ length (globals_after ws (take (2 * used) b))
globals_even ws b used h =
    let e : length (take (2 * used) b) ≡ 2 * used = length-take-le (2 * used) b h in
    globals_keep (λ l. 2 * (length l / 2) ≡ length l) more ws (take (2 * used) b) (omega arith)
  where
    more : (l : List ℕ) (x y : ℕ) → 2 * (length l / 2) ≡ length l → 2 * (length (l ++ (x ∷ y ∷ [])) / 2) ≡ length (l ++ (x ∷ y ∷ []))
    more l x y k = let e : length (l ++ (x ∷ y ∷ [])) ≡ length l + 2 = length-append l (x ∷ y ∷ []) in omega arith

-- what the code behind the lists needs of them
pub record Counted (u : Used) (l : Lists) (u' : Used) (b' : Lists) : Type 0 where
  pub globals : Stands (global_words u') b'.globals l.globals
  pub globals_few : u'.globals ≤ 65534
  pub builtins : Stands u'.builtins b'.builtins l.builtins
  pub builtins_few : u'.builtins ≤ 65534
  pub targets : Stands u'.targets b'.targets l.targets
  pub targets_more : u.targets ≤ u'.targets

pub counted : (ws places : List ℕ) (u : Used) (b : Lists) {u' : Used} {b' : Lists} → Started u b → lists_fit b (lists_after ws places b u) ≡ true
    → Made u b (lists_after ws places b u) u' b' → Counted u (lists_after ws places b u) u' b'
counted ws places u b {u'} {b'} s h m =
    let l = lists_after ws places b u in
    let f = fits_parts b l h in
    let g : u'.globals ≡ length l.globals / 2 = ap (λ (x : Used). x.globals) m.used_is in
    let n : u'.builtins ≡ length l.builtins = ap (λ (x : Used). x.builtins) m.used_is in
    let t : u'.targets ≡ length l.targets = ap (λ (x : Used). x.targets) m.used_is in
    let lent = room-lent 2 (length b.globals) in
    let lent₁ = room-lent 1 (length b.builtins) in
    let even = globals_even ws b.globals u.globals (omega (arith, s.globals, lent)) in
    let whole : global_words u' ≡ length l.globals = omega (arith, g, even) in
    record {
      globals = stands b.globals l.globals whole m.globals_is (omega (arith, f.globals, lent));
      globals_few = omega (arith, g, f.globals);
      builtins = stands b.builtins l.builtins n m.builtins_is (omega (arith, f.builtins, lent₁));
      builtins_few = omega (arith, n, f.builtins);
      targets = stands b.targets l.targets t m.targets_is f.targets;
      targets_more = omega (arith, t, (targets_start ws b.targets u.targets places s.targets).long);
    }

passed : (t : Bool) → ◌≡◌ {A = ℕ} 0 (pick t 0 9) → t ≡ true
passed true e = refl
passed false e = absurd (omega arith)

-- where they are made all six fit
pub listed_fits : {ws places : List ℕ} {u : Used} {b b' : Lists} {u' : Used} → Listed ws places u b b' (Ok u')
    → lists_fit b (lists_after ws (take (values ws) places) b u) ≡ true
listed_fits h = passed _ h.number_is
