-- What a placement and a pin of a judged state answer, by what was found and by whether the call's numbers are good.
use mathlib.Core.Path.{◌≡◌, refl, sym, ap, ◌∙◌}
use mathlib.Core.Bool.{Bool, true, false, not}
use mathlib.Core.List.{List}
use Prim.Native.Nat.{ℕ}
use lib.ListN.{get_or}
use Rattle.std.specs.Prelude.{Option, Some, None, Ok, Err}
use Rattle.std.specs.Option.{is_some}
use Rattle.place.specs.declared.Reg.{Reg}
use Rattle.place.specs.declared.Place.{Place}
use Rattle.place.specs.Places.{found_of}
use Rattle.refusal.specs.declared.Refusal.TheVariants.{NoSlot}
use Rattle.alloc.specs.declared.Alloc.{Alloc}
use Rattle.alloc.specs.declared.Taken.{Taken}
use Rattle.alloc.specs.Allocation.{expire_of, take_of, place_of, map_after_place, is_free}
use Rattle.alloc.proofs.Outcome.{place-again, place_none, new_got, map_full, pin-map-not}
use Rattle.alloc_entry.specs.declared.Answer.TheVariants as answer
use Rattle.alloc_entry.specs.Entries.{answered, no_slot, call_ok}
use Rattle.alloc_entry.specs.Inner.{place_in, place_in_map, pin_in, pin_in_map}

-- none, by the library's test
none_got : (x : Option Place) (r : Bool) → is_some x ≡ not r → r ≡ no_slot x
none_got (Some p) true e = cc
none_got (Some p) false e = refl
none_got None true e = refl
none_got None false e = cc

module _ (map : List ℕ) (id class at : ℕ) (h : Option Reg) (pool : List ℕ) (s : Alloc) where
  abbrev got_of : ℕ → Option Place
  got_of end = (place_of map id class at end h pool s).got

  -- ---- is there a place?
  module _ (f : Option Place) (w : ℕ) (e : f ≡ found_of w) (r : w ≡ get_or map id 0) where
    pub found-again : (p : Place) → f ≡ Some p → (end : ℕ) → false ≡ no_slot (got_of end)
    found-again p q end =
        sym (ap (λ (t : Taken). no_slot t.got) (place-again map id class at end h pool s p (rw (← r) (sym e ∙ q))))

    module _ (x : Alloc) (t : Taken) (q : f ≡ None) (ex : x ≡ expire_of at s) (et : t ≡ take_of class h pool x) where
      taken_got : (end : ℕ) → got_of end ≡ t.got
      taken_got end =
          ap (λ (y : Taken). y.got) (place_none map id class at end h pool s (rw (← r) (sym e ∙ q)))
          ∙ new_got class at end h pool s
          ∙ ap (λ (y : Taken). y.got) (sym (et ∙ ap (take_of class h pool) ex))

      pub found_asked : (r : Bool) → is_some t.got ≡ not r → (end : ℕ) → r ≡ no_slot (got_of end)
      found_asked r g end = none_got t.got r g ∙ ap no_slot (sym (taken_got end))

  -- ---- a placement that found none changes nothing
  module _ (end : ℕ) (t : Taken) (m : List ℕ) (e : (t ≡ place_of map id class at end h pool s) × (m ≡ map_after_place map id class at h pool s)) where
    pub in_full : t.got ≡ None → (answered (Err NoSlot) s ≡ place_in map id class at end h pool s) × (m ≡ place_in_map map id class at end h pool s)
    unfolding place_in place_in_map
    in_full g =
        let z : (place_of map id class at end h pool s).got ≡ None = rw e.0 at g in
        (rw z, e.1 ∙ map_full map id class at end h pool s z ∙ rw z)

-- ---- a pin of a register that is held
module _ (map : List ℕ) (id : ℕ) (r : Reg) (end : ℕ) (s : Alloc) (k : Bool) (c : k ≡ call_ok map id (Some r)) (q : k ≡ true) (f : Bool) (e : f ≡ is_free r s) where
  pub pin-held : f ≡ false → (answered (Ok answer.NotFree) s ≡ pin_in map id r end s) × (map ≡ pin_in_map map id r s)
  unfolding pin_in pin_in_map
  pin-held b = (rw (sym c ∙ q, sym e ∙ b), rw (sym c ∙ q) (sym (pin-map-not map id r s (sym e ∙ b))))
