-- The first words of each buffer, one for each value: enough for the walk, and what it leaves there.
use Prim.Native.Nat.{ℕ, ◌≤◌}
use mathlib.Core.Bool.{Bool, true, false, ◌&&◌}
use mathlib.Core.List.{List, ◌++◌}
use mathlib.Core.Path.{◌≡◌, refl, sym, ap, ◌∙◌}
use native.Mathlib.Omega.{arith}
use lib.Dec.{leb}
use lib.ListN.{length, take, drop, replicate, length-replicate}
use lib.Seq.{sets, length-take-le, take_at}
use borrow.Author.Tests.{leb-true}
use Rattle.base.proofs.Lists.{sets-front}
use Rattle.alloc.specs.declared.Alloc.{Alloc}
use Rattle.input.specs.Layout.{values}
use Rattle.input.specs.Forms.{both}
use Rattle.input.proofs.Chain.{both-parts}
use Rattle.assign.specs.Walk.{Walk, walk, assigned}
use Rattle.assign.specs.Fits.{Lent}
use Rattle.placing.specs.Placing.{room_ok}

three : (p q r : Bool) → ((p && q) && r) ≡ both p (both q r)
three true true r = refl
three true false r = refl
three false q r = refl

pub room_is : (ws map hints noted : List ℕ) (k : ℕ) → k ≡ values ws
    → ((leb k (length map) && leb k (length hints)) && leb k (length noted)) ≡ room_ok ws map hints noted
unfolding room_ok
room_is ws map hints noted k e = rw e (three (leb (values ws) (length map)) (leb (values ws) (length hints)) (leb (values ws) (length noted)))

pub record Room (map hints noted : List ℕ) (k : ℕ) : Type 0 where
  pub for_map : k ≤ length map
  pub for_hints : k ≤ length hints
  pub for_noted : k ≤ length noted

pub room_says : (ws map hints noted : List ℕ) (k : ℕ) → k ≡ values ws → room_ok ws map hints noted ≡ true → Room map hints noted k
unfolding room_ok
room_says ws map hints noted k e h =
    let p = both-parts (leb (values ws) (length map)) _ h in
    let q = both-parts (leb (values ws) (length hints)) (leb (values ws) (length noted)) p.1 in
    record {
      for_map = rw e (leb-true _ _ p.0);
      for_hints = rw e (leb-true _ _ q.0);
      for_noted = rw e (leb-true _ _ q.1);
    }

pub parts-lent : (ws map hints noted : List ℕ) (k : ℕ) → k ≡ values ws → Room map hints noted k → Lent ws (take k map) (take k hints) (take k noted)
parts-lent ws map hints noted k e r =
    record {
      places = length-take-le k map r.for_map ∙ e;
      wishes = length-take-le k hints r.for_hints ∙ e;
      masks = length-take-le k noted r.for_noted ∙ e;
    }

-- arrays of 4,096 zeros have a word for each value
pub zeros-lent : (ws : List ℕ) (k : ℕ) → k ≡ values ws → values ws ≤ 4096
    → Lent ws (take k (replicate 4096 0)) (take k (replicate 4096 0)) (take k (replicate 4096 0))
zeros-lent ws k e h =
    let l : k ≤ length (replicate {A = ℕ} 4096 0) = rw (length-replicate {A = ℕ} 4096 0) (omega arith) in
    parts-lent ws _ _ _ k e (record { for_map = l; for_hints = l; for_noted = l })

module _ (n : ℕ) (ws part wish noted : List ℕ) (s : Alloc) (e : walk s part wish noted ≡ assigned n ws) where
  pub walked-alloc : s ≡ (assigned n ws).alloc
  walked-alloc = ap (λ (w : Walk). w.alloc) e

  pub walked-map : part ≡ (assigned n ws).map
  walked-map = ap (λ (w : Walk). w.map) e

  walked_masks : noted ≡ (assigned n ws).noted
  walked_masks = ap (λ (w : Walk). w.noted) e

  -- the map with its first k words written
  pub walked-front : (map : List ℕ) (k : ℕ) → k ≤ length map → length part ≡ length (take k map)
      → part ++ drop k map ≡ sets map 0 (assigned n ws).map
  walked-front map k h l =
      let q : length part ≡ k = l ∙ length-take-le k map h in
      ap (λ (j : ℕ). part ++ drop j map) (sym q) ∙ sym (sets-front map part (omega arith)) ∙ ap (sets map 0) walked-map

  -- the noted registers with their first k words written
  pub walked-noted : (old : List ℕ) (k : ℕ) → k ≡ values ws → k ≤ length old → length noted ≡ length (take k old)
      → take (values ws) (noted ++ drop k old) ≡ (assigned n ws).noted
  walked-noted old k q h l =
      take_at noted (drop k old) (values ws) (l ∙ length-take-le k old h ∙ q) ∙ walked_masks
