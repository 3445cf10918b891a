-- What refusal 12 says of a state and of the pool lists that are lent with it.
use Rattle.std.specs.Prelude.{ℕ, zero, suc, ◌+◌, ◌-◌, Bool, true, false, List, [], ◌∷◌, ◌++◌, map, leb, ltb, length, get_or}
use Rattle.base.specs.Choice.{pick}
use Rattle.base.specs.Lists.{among, distinct}
use Rattle.base.specs.Masks.{has_bit}
use Rattle.place.specs.declared.Reg.{Reg}
use Rattle.place.specs.Places.{number_of, index_of, slots_from, floats_from}
use Rattle.alloc.specs.declared.Entry.{Entry}
use Rattle.alloc.specs.declared.Alloc.{Alloc}
use Rattle.alloc.specs.State.{most_active, most_slots, most_pool, live, free_slots}

-- a register below 64
abbrev pub reg_ok : Reg → Bool
reg_ok r = ltb (index_of r) 64

-- every register of a pool list is
abbrev pub all_below : List ℕ → Bool
all_below [] = true
all_below (r ∷ rs) = pick (ltb r 64) (all_below rs) false

-- the registers of a mask, as place numbers from a first one on
unfoldable pub in_mask : ℕ → ℕ → ℕ → ℕ → List ℕ
in_mask m from r zero = []
in_mask m from r (suc n) = pick (has_bit m r) ((from + r) ∷ in_mask m from (suc r) n) (in_mask m from (suc r) n)

-- the places of a state, active and free, as numbers
unfoldable pub active_places : List Entry → List ℕ
active_places [] = []
active_places (e ∷ es) = number_of e.place ∷ active_places es

unfoldable pub free_regs : Alloc → List ℕ
free_regs s = in_mask (get_or s.free 0 0) 0 0 64 ++ in_mask (get_or s.free 1 0) floats_from 0 64

unfoldable pub places_of : Alloc → List ℕ
places_of s = active_places (live s) ++ map (λ k. slots_from + k) (free_slots s) ++ free_regs s

-- a place of the pool, or a slot that was made
abbrev pub ours : List ℕ → List ℕ → ℕ → ℕ → Bool
ours gprs fprs made p =
    pick (ltb p slots_from) (among p gprs) (pick (ltb p floats_from) (ltb (p - slots_from) made) (among (p - floats_from) fprs))

abbrev pub all_ours : List ℕ → List ℕ → ℕ → List ℕ → Bool
all_ours gprs fprs made [] = true
all_ours gprs fprs made (p ∷ ps) = pick (ours gprs fprs made p) (all_ours gprs fprs made ps) false

-- no count beyond its array, and no more slots made than there may be
abbrev pub counts_ok : Alloc → Bool
counts_ok s = pick (leb s.count most_active) (pick (leb s.spares most_slots) (leb s.made most_slots) false) false

-- a state and its lists: registers below 64, counts within, each place one of ours, and none twice among the active and the free
unfoldable pub state_ok : List ℕ → List ℕ → Alloc → Bool
state_ok gprs fprs s =
    pick (all_below gprs)
    (pick (all_below fprs)
    (pick (counts_ok s)
    (pick (all_ours gprs fprs s.made (places_of s))
    (distinct (places_of s))
    false)
    false)
    false)
    false

-- neither pool list has more than 64 entries
abbrev pub lists_short : List ℕ → List ℕ → Bool
lists_short gprs fprs = pick (leb (length gprs) most_pool) (leb (length fprs) most_pool) false
