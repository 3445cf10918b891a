-- Calls come in any order, clock backwards included: no two active entries share a place, and no active place is free.
use Rattle.std.specs.Prelude.{◌≡◌, false, ℕ, ◌+◌, ◌<◌, List, [], ◌∷◌, map, ◌++◌, length, get_or, Option}
use Rattle.base.specs.Lists.{among}
use Rattle.place.specs.declared.Reg.{Reg}
use Rattle.place.specs.Places.{slots_from}
use Rattle.alloc.specs.declared.Alloc.{Alloc}
use Rattle.alloc.specs.State.{live, free_slots}
use Rattle.alloc_state.specs.Judged.{active_places, free_regs}
use Rattle.alloc_entry.specs.Entries.{fresh_entry, place_entry, place_entry_map, pin_entry, pin_entry_map, expire_entry}

-- a call of an entry that changes the state; asking changes nothing
pub data Call : Type 0 where
  place : (id class at end : ℕ) → Option Reg → Call
  pin : (id : ℕ) → Reg → (end : ℕ) → Call
  expire : (at : ℕ) → Call

-- the state and the map, one call after the other
abbrev pub state_after : List ℕ → List ℕ → List Call → List ℕ → Alloc → Alloc
state_after gprs fprs [] ids s = s
state_after gprs fprs (place id class at end h ∷ calls) ids s =
    state_after gprs fprs calls (place_entry_map ids id class at end h gprs fprs s) (place_entry ids id class at end h gprs fprs s).state
state_after gprs fprs (pin id r end ∷ calls) ids s =
    state_after gprs fprs calls (pin_entry_map ids id r gprs fprs s) (pin_entry ids id r end gprs fprs s).state
state_after gprs fprs (expire at ∷ calls) ids s = state_after gprs fprs calls ids (expire_entry at gprs fprs s).state

abbrev pub active_at : Alloc → ℕ → ℕ
active_at s i = get_or (active_places (live s)) i 0

pub record Apart (s : Alloc) : Type 0 where
  pub no_sharing : (i j : ℕ) → i < length (live s) → j < length (live s) → active_at s i ≡ active_at s j → i ≡ j
  pub not_free : (i : ℕ) → i < length (live s) → among (active_at s i) (map (λ k. slots_from + k) (free_slots s) ++ free_regs s) ≡ false

-- The theorem: after any calls, from a fresh state or from any that a call accepts.
abbrev pub SharingTheorem : Type 0
SharingTheorem = (gprs fprs ids : List ℕ) (calls : List Call) → Apart (state_after gprs fprs calls ids (fresh_entry gprs fprs).state)
