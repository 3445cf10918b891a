-- Allocation (xr), rule by rule.
use Rattle.std.specs.Prelude.{ℕ, ◌+◌, ◌-◌, Bool, false, List, [], ◌∷◌, leb, ltb, eqb, length, get_or, set, Option, Some, None}
use Rattle.base.specs.Choice.{pick}
use Rattle.base.specs.Masks.{has_bit, with_bit, without_bit}
use Rattle.place.specs.declared.Reg.{Reg}
use Rattle.place.specs.declared.Place.{Place}
use Rattle.place.specs.declared.Place.TheVariants.{Slot, Register}
use Rattle.place.specs.Places.{class_of, index_of, reg_of, word_of, found_of}
use Rattle.alloc.specs.declared.Entry.{Entry}
use Rattle.alloc.specs.declared.Alloc.{Alloc}
use Rattle.alloc.specs.declared.Taken.{Taken}
use Rattle.alloc.specs.State.{most_slots, live, with_free, with_used, with_slots, with_active, over}

-- Expire: active entries with end <= at leave in list order; a register becomes free, a slot goes on top of the free slots.
unfoldable pub kept_of : ℕ → List Entry → List Entry
kept_of at [] = []
kept_of at (e ∷ es) = pick (leb e.end at) (kept_of at es) (e ∷ kept_of at es)

unfoldable pub gone_of : ℕ → List Entry → List Entry
gone_of at [] = []
gone_of at (e ∷ es) = pick (leb e.end at) (e ∷ gone_of at es) (gone_of at es)

unfoldable pub free_reg : Reg → Alloc → Alloc
free_reg r s = with_free (set s.free (class_of r) (with_bit (get_or s.free (class_of r) 0) (index_of r))) s

unfoldable pub free_slot : ℕ → Alloc → Alloc
free_slot k s = with_slots (set s.spare s.spares k) (s.spares + 1) s.made s

unfoldable pub release : Place → Alloc → Alloc
release (Slot k) s = free_slot k s
release (Register r) s = free_reg r s

unfoldable pub release_all : List Entry → Alloc → Alloc
release_all [] s = s
release_all (e ∷ es) s = release_all es (release e.place s)

unfoldable pub expire_of : ℕ → Alloc → Alloc
expire_of at s =
    with_active (over (kept_of at (live s)) s.active) (length (kept_of at (live s))) (release_all (gone_of at (live s)) s)

-- a register is free; it is taken, and noted as used
unfoldable pub is_free : Reg → Alloc → Bool
is_free r s = has_bit (get_or s.free (class_of r) 0) (index_of r)

unfoldable pub take_reg : Reg → Alloc → Alloc
take_reg r s =
    with_used (set s.used (class_of r) (with_bit (get_or s.used (class_of r) 0) (index_of r)))
    (with_free (set s.free (class_of r) (without_bit (get_or s.free (class_of r) 0) (index_of r))) s)

abbrev pub took : Alloc → Option Place → Taken
took s g = record { state = s; got = g }

-- the last free register of the pool in list order
abbrev pub or_else : Option ℕ → Option ℕ → Option ℕ
or_else (Some r) other = Some r
or_else None other = other

unfoldable pub last_free : ℕ → List ℕ → Option ℕ
last_free m [] = None
last_free m (r ∷ rs) = or_else (last_free m rs) (pick (has_bit m r) (Some r) None)

-- else the top free slot, else a new slot, of which there are at most 128
unfoldable pub take_slot : Alloc → Taken
take_slot s =
    pick (ltb 0 s.spares)
    (took (with_slots s.spare (s.spares - 1) s.made s) (Some (Slot (get_or s.spare (s.spares - 1) 0))))
    (pick (leb most_slots s.made) (took s None)
    (took (with_slots s.spare s.spares (s.made + 1) s) (Some (Slot s.made))))

unfoldable pub from_pool : ℕ → Option ℕ → Alloc → Taken
from_pool class (Some r) s = took (take_reg (reg_of class r) s) (Some (Register (reg_of class r)))
from_pool class None s = take_slot s

-- first the hint, if of the same class and free
unfoldable pub hinted : ℕ → Reg → Alloc → Bool
hinted class r s = pick (eqb (class_of r) class) (is_free r s) false

unfoldable pub take_of : ℕ → Option Reg → List ℕ → Alloc → Taken
take_of class None pool s = from_pool class (last_free (get_or s.free class 0) pool) s
take_of class (Some r) pool s =
    pick (hinted class r s) (took (take_reg r s) (Some (Register r)))
    (from_pool class (last_free (get_or s.free class 0) pool) s)

-- one active entry more
abbrev pub entered : Entry → Alloc → Alloc
entered e s = with_active (set s.active s.count e) (s.count + 1) s

-- a place that was found is entered; where there is none the state stays as it was before the expiry
unfoldable pub enter : ℕ → Alloc → Alloc → Option Place → Taken
enter end before s (Some p) = took (entered (record { end = end; place = p }) s) (Some p)
enter end before s None = took before None

unfoldable pub map_entered : List ℕ → ℕ → Option Place → List ℕ
map_entered map id (Some p) = set map id (word_of (Some p))
map_entered map id None = map

-- An id that has a place gets it again, even after expiry. Otherwise first expire, then take.
abbrev pub place_again : Alloc → Option Place → Taken → Taken
place_again s (Some p) new = took s (Some p)
place_again s None new = new

abbrev pub map_again : List ℕ → Option Place → List ℕ → List ℕ
map_again map (Some p) new = map
map_again map None new = new

unfoldable pub new_place : ℕ → ℕ → ℕ → Option Reg → List ℕ → Alloc → Taken
new_place class at end h pool s =
    enter end s (take_of class h pool (expire_of at s)).state (take_of class h pool (expire_of at s)).got

unfoldable pub place_of : List ℕ → ℕ → ℕ → ℕ → ℕ → Option Reg → List ℕ → Alloc → Taken
place_of map id class at end h pool s = place_again s (found_of (get_or map id 0)) (new_place class at end h pool s)

unfoldable pub map_after_place : List ℕ → ℕ → ℕ → ℕ → Option Reg → List ℕ → Alloc → List ℕ
map_after_place map id class at h pool s =
    map_again map (found_of (get_or map id 0)) (map_entered map id (take_of class h pool (expire_of at s)).got)

-- Pinning does not expire. A register that isn't free changes nothing.
unfoldable pub pin_of : Reg → ℕ → Alloc → Alloc
pin_of r end s = pick (is_free r s) (entered (record { end = end; place = Register r }) (take_reg r s)) s

unfoldable pub map_after_pin : List ℕ → ℕ → Reg → Alloc → List ℕ
map_after_pin map id r s = pick (is_free r s) (set map id (word_of (Some (Register r)))) map

-- the registers of active entries with end > row, as a mask for a class
abbrev pub notes : ℕ → Place → ℕ → ℕ
notes class (Slot k) m = m
notes class (Register r) m = pick (eqb (class_of r) class) (with_bit m (index_of r)) m

unfoldable pub live_after : ℕ → ℕ → List Entry → ℕ → ℕ
live_after class row [] m = m
live_after class row (e ∷ es) m = live_after class row es (pick (ltb row e.end) (notes class e.place m) m)
