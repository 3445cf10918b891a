-- What every state of the allocator is, whichever calls led to it: no count beyond its array, no place twice among the active and the free, and
-- each place a register below 64 or a slot that was made.
use Rattle.std.specs.Prelude.{◌≡◌, Bool, true, false, List, [], ◌∷◌, ℕ, ◌+◌, ◌^◌, ◌≤◌, ◌<◌, eqb, length, get_or}
use Rattle.place.specs.declared.Reg.{Reg}
use Rattle.place.specs.declared.Reg.TheVariants.{Gpr, Fpr}
use Rattle.place.specs.declared.Place.{Place}
use Rattle.place.specs.declared.Place.TheVariants.{Slot, Register}
use Rattle.place.specs.Places.{index_of}
use Rattle.alloc.specs.declared.Entry.{Entry}
use Rattle.alloc.specs.declared.Alloc.{Alloc}
use Rattle.alloc.specs.State.{most_active, most_slots, live, free_slots}
use Rattle.alloc.specs.Allocation.{is_free}

-- 1 where a test holds, else 0
abbrev pub bit : Bool → ℕ
bit true = 1
bit false = 0

-- 1 where two places are the same, else 0
abbrev pub same_reg : Reg → Reg → ℕ
same_reg (Gpr a) (Gpr b) = bit (eqb a b)
same_reg (Gpr a) (Fpr b) = 0
same_reg (Fpr a) (Gpr b) = 0
same_reg (Fpr a) (Fpr b) = bit (eqb a b)

abbrev pub same : Place → Place → ℕ
same (Slot a) (Slot b) = bit (eqb a b)
same (Slot a) (Register b) = 0
same (Register a) (Slot b) = 0
same (Register a) (Register b) = same_reg a b

-- how often a place stands among the active entries, and among the free places
unfoldable pub occurs : Place → List Entry → ℕ
occurs p [] = 0
occurs p (e ∷ es) = same p e.place + occurs p es

unfoldable pub stacked : ℕ → List ℕ → ℕ
stacked k [] = 0
stacked k (j ∷ js) = bit (eqb k j) + stacked k js

unfoldable pub free_of : Place → Alloc → ℕ
free_of (Slot k) s = stacked k (free_slots s)
free_of (Register r) s = bit (is_free r s)

abbrev pub times : Place → Alloc → ℕ
times p s = occurs p (live s) + free_of p s

-- the arrays have their lengths, and the free masks their bits, as those of every value of the struct
pub record Shaped (s : Alloc) : Type 0 where
  pub actives : length s.active ≡ most_active
  pub frees : length s.free ≡ 2
  pub stack : length s.spare ≡ most_slots
  pub masks : (class : ℕ) → get_or s.free class 0 < 2 ^ 64

-- a register below 64, or a slot that was made
abbrev pub Known : ℕ → Place → Type 0
Known made (Slot k) = k < made
Known made (Register r) = index_of r < 64

-- there is room on the free slots for one that is released
abbrev pub Releasable : Place → Alloc → Type 0
Releasable (Slot k) s = s.spares < most_slots
Releasable (Register r) s = Unit

pub record Good (s : Alloc) : Type 0 where
  pub shape : Shaped s
  pub within : s.count ≤ most_active
  pub spared : s.spares ≤ most_slots
  pub capped : s.made ≤ most_slots
  pub once : (p : Place) → times p s ≤ 1
  pub known : (p : Place) → 0 < times p s → Known s.made p
