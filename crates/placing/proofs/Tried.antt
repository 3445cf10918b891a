-- Each exit of place_values, over plain variables.
use Rattle.std.specs.Prelude.{Ok, Err}
use Prim.Native.Nat.{ℕ, zero, suc, ◌≤◌}
use mathlib.Core.Bool.{true, false}
use mathlib.Core.List.{List}
use mathlib.Core.Path.{◌≡◌, refl, ap, ◌∙◌}
use native.Mathlib.Omega.{arith}
use lib.ListN.{length, get_or, take}
use lib.Seq.{sets}
use Rattle.base.specs.Masks.{has_bit}
use Rattle.base.proofs.Numbers.{pick-both}
use Rattle.refusal.specs.declared.Refusal.TheVariants.{NoSlot, NoRoom}
use Rattle.alloc.specs.declared.Alloc.{Alloc}
use Rattle.alloc.specs.Good.{Good}
use Rattle.input.specs.Layout.{values}
use Rattle.assign.specs.Walk.{assigned, used_below, slots_ok}
use Rattle.placing.specs.declared.Placed.{Placed}
use Rattle.placing.specs.Placing.{room_ok, PlacesGiven, PlacesTried}
use Rattle.placing.proofs.Parts.{room_says}

-- the registers used below k are at most k
pub used_most : (m k : ℕ) → used_below m k ≤ k
unfolding used_below
used_most m zero = omega arith
used_most m (suc k) = pick-both (λ (x : ℕ). x ≤ suc k) (has_bit m k) (suc k) (used_below m k) (omega arith) (omega (arith, used_most m k))

module _ (n : ℕ) (ws places hints noted places' noted' : List ℕ) where
  pub tried_no_slot : slots_ok n ws ≡ false → PlacesTried n ws places hints noted places noted' (Err NoSlot)
  tried_no_slot h = record { number_is = rw h; given = tt; kept = refl }

  pub tried_no_room : slots_ok n ws ≡ true → room_ok ws places hints noted ≡ false → PlacesTried n ws places hints noted places noted' (Err NoRoom)
  tried_no_room h q = record { number_is = rw (h, q); given = tt; kept = refl }

  pub tried_given : (r : Placed) → slots_ok n ws ≡ true → room_ok ws places hints noted ≡ true → PlacesGiven n ws places places' noted' r
      → PlacesTried n ws places hints noted places' noted' (Ok r)
  tried_given r h q g = record { number_is = rw (h, q); given = g; kept = tt }

-- what the allocator came to
pub places-given : (n : ℕ) (ws places hints noted places' noted' : List ℕ) (r : Placed) (s : Alloc) → room_ok ws places hints noted ≡ true
    → s ≡ (assigned n ws).alloc → Good s → places' ≡ sets places 0 (assigned n ws).map → take (values ws) noted' ≡ (assigned n ws).noted
    → length noted' ≡ length noted → r.slots ≡ s.made → r.top ≡ used_below (get_or s.used 0 0) 64 → PlacesGiven n ws places places' noted' r
places-given n ws places hints noted places' noted' r s room es good ep en ln em et =
    let q = room_says ws places hints noted (values ws) refl room in
    record {
      places_is = ep;
      places_there = q.for_map;
      noted_is = en;
      noted_there = omega (arith, q.for_noted);
      slots_is = em ∙ ap (λ (a : Alloc). a.made) es;
      slots_few = omega (arith, good.capped);
      top_is = et ∙ ap (λ (a : Alloc). used_below (get_or a.used 0 0) 64) es;
      top_low = omega (arith, used_most (get_or s.used 0 0) 64);
    }
