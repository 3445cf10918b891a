-- Calls in any order: no two active entries share a place, and no active place is free. What an entry hands back, the next accepts.
use mathlib.Core.Path.{◌≡◌, refl, sym, ap, ◌∙◌}
use mathlib.Core.Bool.{true}
use mathlib.Core.List.{List, [], ◌∷◌, ◌++◌, map, append_assoc}
use Prim.Native.Nat.{ℕ, suc, ◌+◌, ◌≤◌}
use native.Mathlib.Omega.{arith}
use lib.ListN.{length}
use Rattle.std.specs.Prelude.{Option, Some, Err}
use Rattle.base.specs.Choice.{pick}
use Rattle.base.specs.Lists.{among, distinct}
use Rattle.base.proofs.Numbers.{pick-both}
use Rattle.place.specs.declared.Reg.{Reg}
use Rattle.place.specs.declared.Reg.TheVariants.{Gpr, Fpr}
use Rattle.place.specs.declared.Place.TheVariants.{Register}
use Rattle.place.specs.Places.{slots_from, class_of, index_of}
use Rattle.alloc.specs.declared.Entry.{Entry}
use Rattle.refusal.specs.declared.Refusal.TheVariants.{TooMany, BadReg}
use Rattle.alloc.specs.declared.Alloc.{Alloc}
use Rattle.alloc.specs.State.{live, free_slots, fresh_of}
use Rattle.alloc.specs.Allocation.{expire_of, place_of, is_free, pin_of}
use Rattle.alloc.specs.Good.{times, Good}
use Rattle.alloc.proofs.Keeps.{bit-true, free_reg_lem, fresh-times, good_fresh, good_expire, good_place, good_pin}
use Rattle.alloc.proofs.Owned.{Fitted}
use Rattle.alloc.proofs.Regs.{regs_expire, regs_place, regs_pin}
use Rattle.alloc_entry.specs.declared.Answered.{Answered}
use Rattle.alloc_state.specs.Judged.{all_below, active_places, free_regs, places_of, state_ok, lists_short}
use Rattle.alloc_entry.specs.Entries.{answered, no_slot, pool_of, call_ok, fresh_entry, place_entry, place_entry_map, pin_entry, pin_entry_map, expire_entry}
use Rattle.alloc_entry.specs.Sharing.{Call, place, pin, expire, state_after, Apart, SharingTheorem}
use Rattle.alloc_state.proofs.Distinct.{distinct-left, distinct_apart, distinct-once}
use Rattle.alloc_state.proofs.Ours.{pool-has}
use Rattle.alloc_state.proofs.States.{accepts}
use Rattle.alloc_entry.proofs.Accept.{Sound, good_distinct, sound_accepted}
use Rattle.alloc_entry.proofs.Refusals.{passed_sound}

-- ---- a good state
length_active : (es : List Entry) → length (active_places es) ≡ length es
unfolding active_places
length_active [] = refl
length_active (e ∷ es) = ap suc (length_active es)

pub good_apart : (s : Alloc) → Good s → Apart s
unfolding places_of
good_apart s g =
    let a : List ℕ = active_places (live s) in
    let b : List ℕ = map (λ k. slots_from + k) (free_slots s) in
    let d : distinct ((a ++ b) ++ free_regs s) ≡ true = good_distinct s g in
    let n : length a ≡ length (live s) = length_active (live s) in
    record {
      no_sharing = λ i j h k e.
          distinct-once a (distinct-left a b (distinct-left (a ++ b) (free_regs s) d)) i j (omega arith) (omega arith) e;
      not_free = λ i h. distinct_apart a (b ++ free_regs s) (rw append_assoc at d) i (omega arith);
    }

-- ---- what every step keeps, every call keeps
module _ (P : Alloc → Type 0) (on-expire : (at : ℕ) (s : Alloc) → P s → P (expire_of at s))
    (on-place : (ids : List ℕ) (id class at end : ℕ) (h : Option Reg) (pool : List ℕ) (s : Alloc) → P s → P (place_of ids id class at end h pool s).state)
    (on-pin : (r : Reg) (end : ℕ) (s : Alloc) → P s → P (pin_of r end s)) (gprs fprs : List ℕ) where
  abbrev InState : Answered → Type 0
  InState t = P t.state

  -- a refusal has the state as it was
  judged_keeps : (s : Alloc) (t : Answered) → P s → InState t
      → InState (pick (lists_short gprs fprs) (pick (state_ok gprs fprs s) t (answered (Err BadReg) s)) (answered (Err TooMany) s))
  judged_keeps s t p q =
      pick-both InState (lists_short gprs fprs) _ _ (pick-both InState (state_ok gprs fprs s) _ _ q p) p

  place_keeps : (ids : List ℕ) (id class at end : ℕ) (h : Option Reg) (s : Alloc) → P s → P (place_entry ids id class at end h gprs fprs s).state
  unfolding place_entry
  place_keeps ids id class at end h s p =
      judged_keeps s _ p
      (pick-both InState (no_slot (place_of ids id class at end h (pool_of gprs fprs class) s).got) _ _ p
      (pick-both InState (call_ok ids id h) _ _ (on-place ids id class at end h (pool_of gprs fprs class) s p) p))

  pin_keeps : (ids : List ℕ) (id : ℕ) (r : Reg) (end : ℕ) (s : Alloc) → P s → P (pin_entry ids id r end gprs fprs s).state
  unfolding pin_entry
  pin_keeps ids id r end s p =
      judged_keeps s _ p
      (pick-both InState (call_ok ids id (Some r)) _ _ (pick-both InState (is_free r s) _ _ (on-pin r end s p) p) p)

  expire_keeps : (at : ℕ) (s : Alloc) → P s → P (expire_entry at gprs fprs s).state
  unfolding expire_entry
  expire_keeps at s p = judged_keeps s _ p (on-expire at s p)

  calls-keep : (calls : List Call) (ids : List ℕ) (s : Alloc) → P s → P (state_after gprs fprs calls ids s)
  calls-keep [] ids s p = p
  calls-keep (place id class at end h ∷ calls) ids s p =
      calls-keep calls (place_entry_map ids id class at end h gprs fprs s) (place_entry ids id class at end h gprs fprs s).state
      (place_keeps ids id class at end h s p)
  calls-keep (pin id r end ∷ calls) ids s p =
      calls-keep calls (pin_entry_map ids id r gprs fprs s) (pin_entry ids id r end gprs fprs s).state (pin_keeps ids id r end s p)
  calls-keep (expire at ∷ calls) ids s p = calls-keep calls ids (expire_entry at gprs fprs s).state (expire_keeps at s p)

-- ---- from a fresh state
fresh_good : (gprs fprs : List ℕ) → Good (fresh_entry gprs fprs).state
unfolding fresh_entry
fresh_good gprs fprs =
    let P : Answered → Type 0 = λ t. Good t.state in
    let none : Good (fresh_of [] []) = good_fresh [] [] in
    pick-both P (lists_short gprs fprs) _ _
    (pick-both P (all_below gprs) _ _ (pick-both P (all_below fprs) _ _ (good_fresh gprs fprs) none) none) none

pub sharing : SharingTheorem
sharing gprs fprs ids calls =
    good_apart (state_after gprs fprs calls ids (fresh_entry gprs fprs).state)
    (calls-keep Good good_expire good_place good_pin gprs fprs calls ids (fresh_entry gprs fprs).state (fresh_good gprs fprs))

-- ---- from a state that is accepted
pools_less : (gprs fprs : List ℕ) (s t : Alloc) → Good t → ((r : Reg) → times (Register r) t ≤ times (Register r) s) → Sound gprs fprs s → Sound gprs fprs t
pools_less gprs fprs s t g h o = record { good = g; pools = λ r l. o.pools r (omega (arith, h r)) }

module _ (gprs fprs : List ℕ) where
  sound_after : (calls : List Call) (ids : List ℕ) (s : Alloc) → Sound gprs fprs s → Sound gprs fprs (state_after gprs fprs calls ids s)
  sound_after =
      calls-keep (Sound gprs fprs)
      (λ at s o. pools_less gprs fprs s (expire_of at s) (good_expire at s o.good) (λ r. regs_expire r at s o.good) o)
      (λ ids id class at end h pool s o.
      pools_less gprs fprs s (place_of ids id class at end h pool s).state (good_place ids id class at end h pool s o.good)
      (λ r. regs_place r ids id class at end h pool s o.good) o)
      (λ r end s o. pools_less gprs fprs s (pin_of r end s) (good_pin r end s o.good) (λ q. regs_pin q r end s o.good) o)
      gprs fprs

  pub sharing_accepted : (calls : List Call) (ids : List ℕ) (s : Alloc) → Fitted s → state_ok gprs fprs s ≡ true → Apart (state_after gprs fprs calls ids s)
  sharing_accepted calls ids s f e =
      good_apart (state_after gprs fprs calls ids s) (sound_after calls ids s (passed_sound gprs fprs s f e)).good

  module _ (bg : all_below gprs ≡ true) (bf : all_below fprs ≡ true) where
    -- what the entries hand back is accepted
    pub accepted_after : (calls : List Call) (ids : List ℕ) (s : Alloc) → Sound gprs fprs s → state_ok gprs fprs (state_after gprs fprs calls ids s) ≡ true
    accepted_after calls ids s o =
        accepts gprs fprs (state_after gprs fprs calls ids s)
        (sound_accepted gprs fprs (state_after gprs fprs calls ids s) (sound_after calls ids s o) bg bf)

    fresh-pool : (r : Reg) → is_free r (fresh_of gprs fprs) ≡ true → among (index_of r) (pool_of gprs fprs (class_of r)) ≡ true
    unfolding is_free fresh_of
    fresh-pool (Gpr r) f = sym (pool-has gprs r bg) ∙ f
    fresh-pool (Fpr r) f = sym (pool-has fprs r bf) ∙ f

    pub fresh_sound : Sound gprs fprs (fresh_of gprs fprs)
    fresh_sound =
        let s : Alloc = fresh_of gprs fprs in
        record {
          good = good_fresh gprs fprs;
          pools = λ r l. fresh-pool r (bit-true (is_free r s) (omega (arith, fresh-times gprs fprs (Register r), free_reg_lem r s)));
        }

    pub accepted_fresh : (calls : List Call) (ids : List ℕ) → state_ok gprs fprs (state_after gprs fprs calls ids (fresh_of gprs fprs)) ≡ true
    accepted_fresh calls ids = accepted_after calls ids (fresh_of gprs fprs) fresh_sound
