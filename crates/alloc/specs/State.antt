-- The allocator's state is the struct's own record: an array of 256 active entries beside its count, the free and the used registers as two
-- masks by class number, an array of 128 free slots beside its count, and how many slots were made.
use Rattle.std.specs.Prelude.{ℕ, List, [], ◌∷◌, ◌++◌, length, take, drop, replicate}
use Rattle.base.specs.Masks.{with_bit}
use Rattle.place.specs.declared.Place.TheVariants.{Slot}
use Rattle.alloc.specs.declared.Entry.{Entry}
use Rattle.alloc.specs.declared.Alloc.{Alloc}

-- the most active entries, slots and entries of a pool list
abbrev pub most_active : ℕ
most_active = 256

abbrev pub most_slots : ℕ
most_slots = 128

abbrev pub most_pool : ℕ
most_pool = 64

-- the active entries, and the free slots with the top last
abbrev pub live : Alloc → List Entry
live s = take s.count s.active

abbrev pub free_slots : Alloc → List ℕ
free_slots s = take s.spares s.spare

-- the state with other masks, other slots, other active entries
abbrev pub with_free : List ℕ → Alloc → Alloc
with_free f s =
    record { active = s.active; count = s.count; free = f; used = s.used; spare = s.spare; spares = s.spares; made = s.made }

abbrev pub with_used : List ℕ → Alloc → Alloc
with_used u s =
    record { active = s.active; count = s.count; free = s.free; used = u; spare = s.spare; spares = s.spares; made = s.made }

abbrev pub with_slots : List ℕ → ℕ → ℕ → Alloc → Alloc
with_slots l n k s =
    record { active = s.active; count = s.count; free = s.free; used = s.used; spare = l; spares = n; made = k }

abbrev pub with_active : List Entry → ℕ → Alloc → Alloc
with_active l n s =
    record { active = l; count = n; free = s.free; used = s.used; spare = s.spare; spares = s.spares; made = s.made }

-- an array that starts with the list xs, and is as it was beyond
abbrev pub over : {A : Type 0} → List A → List A → List A
over xs ys = xs ++ drop (length xs) ys

-- the mask of a pool list
unfoldable pub mask_of : ℕ → List ℕ → ℕ
mask_of m [] = m
mask_of m (r ∷ rs) = mask_of (with_bit m r) rs

-- a fresh one: every register of the pool lists is free
abbrev pub empty_entry : Entry
empty_entry = record { end = 0; place = Slot 0 }

unfoldable pub fresh_of : List ℕ → List ℕ → Alloc
fresh_of gprs fprs = record {
  active = replicate most_active empty_entry;
  count = 0;
  free = mask_of 0 gprs ∷ mask_of 0 fprs ∷ [];
  used = 0 ∷ 0 ∷ [];
  spare = replicate most_slots 0;
  spares = 0;
  made = 0;
}
