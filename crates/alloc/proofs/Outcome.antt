-- What a placement and a pin do, for whoever places one value after the other: nothing, or one entry more, whose place no kept entry has.
use mathlib.Core.Path.{◌≡◌, refl, sym, ap, ◌∙◌}
use mathlib.Core.Bool.{true, false}
use mathlib.Core.List.{List, [], ◌∷◌, ◌++◌}
use Prim.Native.Nat.{ℕ, ◌≤◌}
use native.Mathlib.Omega.{arith}
use lib.Dec.{leb, ltb}
use lib.ListN.{get_or, set}
use Rattle.std.specs.Prelude.{Option, Some, None}
use Rattle.base.proofs.Numbers.{pick-both}
use Rattle.place.specs.declared.Reg.{Reg}
use Rattle.place.specs.declared.Reg.TheVariants.{Gpr, Fpr}
use Rattle.place.specs.declared.Place.{Place}
use Rattle.place.specs.declared.Place.TheVariants.{Slot, Register}
use Rattle.place.specs.Places.{Fits, found_of, word_of}
use Rattle.alloc.specs.declared.Entry.{Entry}
use Rattle.alloc.specs.declared.Alloc.{Alloc}
use Rattle.alloc.specs.declared.Taken.{Taken}
use Rattle.alloc.specs.State.{most_slots, live}
use Rattle.alloc.specs.Allocation.{kept_of, expire_of, is_free, take_reg, last_free, take_slot, from_pool, hinted, take_of, took, entered, enter, map_entered, new_place, place_again, map_again, place_of, map_after_place, pin_of, map_after_pin}
use Rattle.alloc.specs.Good.{occurs, Known, Good}
use Rattle.alloc.proofs.Expiry.{kept_append, kept-kept, live-expire}
use Rattle.alloc.proofs.Counts.{same_self, occurs-kept, live-entered}
use Rattle.alloc.proofs.Keeps.{known_more, Pending, PendingFor, pending_room, pending_reg, take_ok, good_expire}

-- ---- the numbers of a place that is known fit their bits
pub known_fits : (p : Place) → Known most_slots p → Fits p
known_fits (Slot k) h = omega arith
known_fits (Register (Gpr r)) h = omega arith
known_fits (Register (Fpr r)) h = omega arith

-- ---- an id that has a place, and one that has none
module _ (map : List ℕ) (id class at end : ℕ) (h : Option Reg) (pool : List ℕ) (s : Alloc) where
  pub place-again : (p : Place) → found_of (get_or map id 0) ≡ Some p → place_of map id class at end h pool s ≡ took s (Some p)
  unfolding place_of
  place-again p e = rw e

  pub map-again : (p : Place) → found_of (get_or map id 0) ≡ Some p → map_after_place map id class at h pool s ≡ map
  unfolding map_after_place
  map-again p e = rw e

  pub place_none : found_of (get_or map id 0) ≡ None → place_of map id class at end h pool s ≡ new_place class at end h pool s
  unfolding place_of
  place_none e = rw e

enter_got : (end : ℕ) (before s : Alloc) (x : Option Place) → (enter end before s x).got ≡ x
unfolding enter
enter_got end before s (Some p) = refl
enter_got end before s None = refl

pub new_got : (class at end : ℕ) (h : Option Reg) (pool : List ℕ) (s : Alloc) → (new_place class at end h pool s).got ≡ (take_of class h pool (expire_of at s)).got
unfolding new_place
new_got class at end h pool s = let t : Taken = take_of class h pool (expire_of at s) in enter_got end s t.state t.got

pub map_none : (map : List ℕ) (id class at end : ℕ) (h : Option Reg) (pool : List ℕ) (s : Alloc) → found_of (get_or map id 0) ≡ None
    → map_after_place map id class at h pool s ≡ map_entered map id (new_place class at end h pool s).got
unfolding map_after_place
map_none map id class at end h pool s e = rw e (ap (map_entered map id) (sym (new_got class at end h pool s)))

-- where there is no place the map stays
full_again : (map : List ℕ) (s : Alloc) (f : Option Place) (new : Taken) (after : List ℕ) → (place_again s f new).got ≡ None → (new.got ≡ None → after ≡ map)
    → map_again map f after ≡ map
full_again map s (Some p) new after e h = refl
full_again map s None new after e h = h e

full_entered : (map : List ℕ) (id : ℕ) (x : Option Place) → x ≡ None → map_entered map id x ≡ map
unfolding map_entered
full_entered map id x e = rw e

pub map_full : (map : List ℕ) (id class at end : ℕ) (h : Option Reg) (pool : List ℕ) (s : Alloc) → (place_of map id class at end h pool s).got ≡ None
    → map_after_place map id class at h pool s ≡ map
unfolding place_of map_after_place
map_full map id class at end h pool s e =
    full_again map s (found_of (get_or map id 0)) (new_place class at end h pool s) _ e
    (λ q. full_entered map id (take_of class h pool (expire_of at s)).got (sym (new_got class at end h pool s) ∙ q))

-- ---- one entry more
abbrev pub entry : ℕ → Place → Entry
entry end p = record { end = end; place = p }

pub record Entered (at end : ℕ) (p : Place) (s s' : Alloc) : Type 0 where
  -- what an expiry from `at` on would leave: what it would have left before, and the new entry if that lasts
  pub more : (t : ℕ) → at ≤ t → kept_of t (live s') ≡ kept_of t (live s) ++ kept_of t (entry end p ∷ [])
  -- no entry that is kept has the place
  pub alone : occurs p (kept_of at (live s)) ≡ 0
  pub known : Known most_slots p

module _ (end : ℕ) (p : Place) (t : Alloc) (r : Pending p t) where
  entered-live : live (entered (entry end p) t) ≡ live t ++ entry end p ∷ []
  entered-live = live-entered (entry end p) t (omega (arith, pending_room (entry end p) t r, r.shape.actives))

  pending_alone : occurs p (live t) ≡ 0
  pending_alone = omega (arith, r.once p, same_self p)

  pending_known : Known most_slots p
  pending_known = known_more t.made most_slots p r.capped (r.known p (omega (arith, same_self p)))

-- after an expiry
entered_expired : (at end : ℕ) (p : Place) (s t : Alloc) → Pending p t → live t ≡ kept_of at (live s) → Entered at end p s (entered (entry end p) t)
entered_expired at end p s t r l =
    record {
      more = λ u q.
          ap (kept_of u) (entered-live end p t r ∙ ap (λ (x : List Entry). x ++ entry end p ∷ []) l)
          ∙ kept_append u (kept_of at (live s)) (entry end p ∷ [])
          ∙ ap (λ (x : List Entry). x ++ kept_of u (entry end p ∷ [])) (kept-kept at u (live s) q);
      alone = rw l at (pending_alone end p t r);
      known = pending_known end p t r;
    }

-- with no expiry
entered_at_once : (at end : ℕ) (p : Place) (s t : Alloc) → Pending p t → live t ≡ live s → Entered at end p s (entered (entry end p) t)
entered_at_once at end p s t r l =
    record {
      more = λ u q.
          ap (kept_of u) (entered-live end p t r ∙ ap (λ (x : List Entry). x ++ entry end p ∷ []) l)
          ∙ kept_append u (live s) (entry end p ∷ []);
      alone = omega (arith, occurs-kept p at (live s), rw l at (pending_alone end p t r));
      known = pending_known end p t r;
    }

-- ---- a taking leaves the active list alone
slot-live : (s : Alloc) → live (take_slot s).state ≡ live s
unfolding take_slot
slot-live s =
    pick-both (λ (t : Taken). live t.state ≡ live s) (ltb 0 s.spares) _ _ refl
    (pick-both (λ (t : Taken). live t.state ≡ live s) (leb most_slots s.made) _ _ refl refl)

reg-live : (r : Reg) (s : Alloc) → live (take_reg r s) ≡ live s
unfolding take_reg
reg-live r s = refl

pool-live : (class : ℕ) (f : Option ℕ) (s : Alloc) → live (from_pool class f s).state ≡ live s
unfolding from_pool
pool-live class (Some r) s = reg-live _ s
pool-live class None s = slot-live s

pub take-live : (class : ℕ) (h : Option Reg) (pool : List ℕ) (s : Alloc) → live (take_of class h pool s).state ≡ live s
unfolding take_of
take-live class None pool s = pool-live class (last_free (get_or s.free class 0) pool) s
take-live class (Some r) pool s =
    pick-both (λ (t : Taken). live t.state ≡ live s) (hinted class r s) _ _ (reg-live r s)
    (pool-live class (last_free (get_or s.free class 0) pool) s)

-- ---- a placement of an id that has no place: one entry more, or nothing changes
abbrev pub Outcome : ℕ → ℕ → Alloc → Alloc → Option Place → Type 0
Outcome at end s s' (Some p) = Entered at end p s s'
Outcome at end s s' None = s' ≡ s

enter-outcome : (at end : ℕ) (s t : Alloc) (x : Option Place) → PendingFor t x → live t ≡ kept_of at (live s)
    → Outcome at end s (enter end s t x).state (enter end s t x).got
unfolding enter
enter-outcome at end s t (Some p) r l = entered_expired at end p s t r l
enter-outcome at end s t None r l = refl

pub place-outcome : (class at end : ℕ) (h : Option Reg) (pool : List ℕ) (s : Alloc) → Good s
    → Outcome at end s (new_place class at end h pool s).state (new_place class at end h pool s).got
unfolding new_place
place-outcome class at end h pool s g =
    let x : Alloc = expire_of at s in
    let t : Taken = take_of class h pool x in
    enter-outcome at end s t.state t.got (take_ok class h pool x (good_expire at s g))
    (take-live class h pool x ∙ live-expire at s)

-- ---- a pin of a register that is free, and of one that is not
pub pin-outcome : (r : Reg) (at end : ℕ) (s : Alloc) → Good s → is_free r s ≡ true → Entered at end (Register r) s (pin_of r end s)
unfolding pin_of
pin-outcome r at end s g f =
    rw f (entered_at_once at end (Register r) s (take_reg r s) (pending_reg r s g f) (reg-live r s))

pub pin-not : (r : Reg) (end : ℕ) (s : Alloc) → is_free r s ≡ false → pin_of r end s ≡ s
unfolding pin_of
pin-not r end s f = rw f

pub pin-map : (map : List ℕ) (id : ℕ) (r : Reg) (s : Alloc) → is_free r s ≡ true → map_after_pin map id r s ≡ set map id (word_of (Some (Register r)))
unfolding map_after_pin
pin-map map id r s f = rw f

pub pin-map-not : (map : List ℕ) (id : ℕ) (r : Reg) (s : Alloc) → is_free r s ≡ false → map_after_pin map id r s ≡ map
unfolding map_after_pin
pin-map-not map id r s f = rw f
