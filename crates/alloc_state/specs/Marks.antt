-- How a state is judged in one pass: each place is marked once, in masks. A place that is not ours, or is marked already, is refused.
use Rattle.std.specs.Prelude.{ℕ, ◌/◌, ◌%◌, Bool, false, List, [], ◌∷◌, map, ltb, eqb, get_or, set}
use Rattle.std.specs.Int.Bits.{bit_and}
use Rattle.base.specs.Choice.{pick}
use Rattle.base.specs.Masks.{has_bit, with_bit}
use Rattle.place.specs.declared.Reg.{Reg}
use Rattle.place.specs.declared.Place.{Place}
use Rattle.place.specs.declared.Place.TheVariants.{Slot, Register}
use Rattle.place.specs.Places.{class_of, index_of}
use Rattle.alloc.specs.declared.Entry.{Entry}
use Rattle.alloc.specs.declared.Alloc.{Alloc}
use Rattle.alloc.specs.State.{mask_of}
use Rattle.alloc_state.specs.declared.Marks.{Marks}

-- number k of the mask at c of a pair of masks, and the pair with it
abbrev pub in_pair : List ℕ → ℕ → ℕ → Bool
in_pair l c k = has_bit (get_or l c 0) k

abbrev pub put_pair : List ℕ → ℕ → ℕ → List ℕ
put_pair l c k = set l c (with_bit (get_or l c 0) k)

abbrev pub refused : Marks → Marks
refused m = record { ok = false; regs = m.regs; slots = m.slots }

-- the pools' masks, by class
abbrev pub pool_masks : List ℕ → List ℕ → List ℕ
pool_masks gprs fprs = mask_of 0 gprs ∷ mask_of 0 fprs ∷ []

-- is the mask a within b?
abbrev pub within : ℕ → ℕ → Bool
within a b = eqb (bit_and a b) a

-- at first the free registers are marked, and no slot
unfoldable pub marks_of : List ℕ → Alloc → Marks
marks_of pools s = record {
  ok = pick (within (get_or s.free 0 0) (get_or pools 0 0)) (within (get_or s.free 1 0) (get_or pools 1 0)) false;
  regs = s.free;
  slots = 0 ∷ 0 ∷ [];
}

-- slot k is number k % 64 of the mask at k / 64
unfoldable pub mark_slot : ℕ → ℕ → Marks → Marks
mark_slot made k m =
    pick (ltb k made)
    (pick (in_pair m.slots (k / 64) (k % 64))
    (refused m)
    (record { ok = m.ok; regs = m.regs; slots = put_pair m.slots (k / 64) (k % 64) }))
    (refused m)

unfoldable pub mark_reg : List ℕ → Reg → Marks → Marks
mark_reg pools r m =
    pick (in_pair pools (class_of r) (index_of r))
    (pick (in_pair m.regs (class_of r) (index_of r))
    (refused m)
    (record { ok = m.ok; regs = put_pair m.regs (class_of r) (index_of r); slots = m.slots }))
    (refused m)

unfoldable pub mark : List ℕ → ℕ → Place → Marks → Marks
mark pools made (Slot k) m = mark_slot made k m
mark pools made (Register r) m = mark_reg pools r m

unfoldable pub mark_all : List ℕ → ℕ → List Place → Marks → Marks
mark_all pools made [] m = m
mark_all pools made (p ∷ ps) m = mark_all pools made ps (mark pools made p m)

-- the places that are marked: first the free slots, then the active entries'
abbrev pub slot_places : List ℕ → List Place
slot_places ks = map Slot ks

abbrev pub entry_places : List Entry → List Place
entry_places es = map (λ (e : Entry). e.place) es
