-- What each public entry answers. A refused call changes nothing. 2 comes first; then a state or list that is none is 12, since nothing can be
-- said of what it holds; then 8; then 12 for the numbers of the call.
use Rattle.std.specs.Prelude.{ℕ, Bool, true, false, List, [], ltb, eqb, length, get_or, Option, Some, None, Result, Ok, Err}
use Rattle.base.specs.Choice.{pick}
use Rattle.base.specs.Masks.{has_bit}
use Rattle.place.specs.declared.Place.{Place}
use Rattle.place.specs.declared.Reg.{Reg}
use Rattle.place.specs.declared.Place.TheVariants.{Slot, Register}
use Rattle.place.specs.Places.{class_of, index_of, found_of}
use Rattle.refusal.specs.declared.Refusal.{Refusal}
use Rattle.refusal.specs.declared.Refusal.TheVariants.{TooMany, NoSlot, BadReg}
use Rattle.refusal.specs.Numbers.{number_of}
use Rattle.alloc.specs.declared.Alloc.{Alloc}
use Rattle.alloc_entry.specs.declared.Answer.{Answer}
use Rattle.alloc_entry.specs.declared.Answer.TheVariants as answer
use Rattle.alloc_entry.specs.declared.Answered.{Answered}
use Rattle.alloc.specs.State.{fresh_of, live}
use Rattle.alloc.specs.Allocation.{expire_of, place_of, map_after_place, pin_of, map_after_pin, is_free, live_after}
use Rattle.alloc_state.specs.Judged.{reg_ok, all_below, state_ok, lists_short}

-- document 01's number of each answer
abbrev pub answer_number : Result Answer Refusal → ℕ
answer_number (Ok a) = 0
answer_number (Err why) = number_of why

abbrev pub answered : Result Answer Refusal → Alloc → Answered
answered a s = record { answer = a; state = s }

-- 2, and 12 for the state and the lists; else what the entry says
abbrev pub judged : {A : Type 0} → List ℕ → List ℕ → Alloc → (Refusal → A) → A → A
judged gprs fprs s refused fine =
    pick (lists_short gprs fprs) (pick (state_ok gprs fprs s) fine (refused BadReg)) (refused TooMany)

-- fresh: a refused one has no register at all
unfoldable pub fresh_entry : List ℕ → List ℕ → Answered
fresh_entry gprs fprs =
    pick (lists_short gprs fprs)
    (pick (all_below gprs)
    (pick (all_below fprs) (answered (Ok answer.Done) (fresh_of gprs fprs)) (answered (Err BadReg) (fresh_of [] [])))
    (answered (Err BadReg) (fresh_of [] [])))
    (answered (Err TooMany) (fresh_of [] []))

-- place, with and without hint: 8 where there is no slot, then 12 for a hint of 64 or more and an id outside the map
abbrev pub hint_ok : Option Reg → Bool
hint_ok None = true
hint_ok (Some r) = reg_ok r

abbrev pub no_slot : Option Place → Bool
no_slot (Some p) = false
no_slot None = true

abbrev pub got_answer : Option Place → Result Answer Refusal
got_answer (Some p) = Ok (answer.Placed p)
got_answer None = Err NoSlot

abbrev pub pool_of : List ℕ → List ℕ → ℕ → List ℕ
pool_of gprs fprs class = pick (eqb class 0) gprs fprs

abbrev pub call_ok : List ℕ → ℕ → Option Reg → Bool
call_ok map id h = pick (hint_ok h) (ltb id (length map)) false

unfoldable pub place_entry : List ℕ → ℕ → ℕ → ℕ → ℕ → Option Reg → List ℕ → List ℕ → Alloc → Answered
place_entry map id class at end h gprs fprs s =
    judged gprs fprs s (λ why. answered (Err why) s)
    (pick (no_slot (place_of map id class at end h (pool_of gprs fprs class) s).got) (answered (Err NoSlot) s)
    (pick (call_ok map id h)
    (answered (got_answer (place_of map id class at end h (pool_of gprs fprs class) s).got) (place_of map id class at end h (pool_of gprs fprs class) s).state)
    (answered (Err BadReg) s)))

unfoldable pub place_entry_map : List ℕ → ℕ → ℕ → ℕ → ℕ → Option Reg → List ℕ → List ℕ → Alloc → List ℕ
place_entry_map map id class at end h gprs fprs s =
    judged gprs fprs s (λ why. map)
    (pick (no_slot (place_of map id class at end h (pool_of gprs fprs class) s).got) map
    (pick (call_ok map id h) (map_after_place map id class at h (pool_of gprs fprs class) s) map))

-- pin: "not free" is Done and changes nothing
unfoldable pub pin_entry : List ℕ → ℕ → Reg → ℕ → List ℕ → List ℕ → Alloc → Answered
pin_entry map id r end gprs fprs s =
    judged gprs fprs s (λ why. answered (Err why) s)
    (pick (call_ok map id (Some r))
    (pick (is_free r s) (answered (Ok (answer.Placed (Register r))) (pin_of r end s)) (answered (Ok answer.NotFree) s))
    (answered (Err BadReg) s))

unfoldable pub pin_entry_map : List ℕ → ℕ → Reg → List ℕ → List ℕ → Alloc → List ℕ
pin_entry_map map id r gprs fprs s = judged gprs fprs s (λ why. map) (pick (call_ok map id (Some r)) (map_after_pin map id r s) map)

unfoldable pub expire_entry : ℕ → List ℕ → List ℕ → Alloc → Answered
expire_entry at gprs fprs s = judged gprs fprs s (λ why. answered (Err why) s) (answered (Ok answer.Done) (expire_of at s))

-- slots made; registers of active entries that end after a row; whether a register was used
unfoldable pub slots_entry : List ℕ → List ℕ → Alloc → Result Answer Refusal
slots_entry gprs fprs s = judged gprs fprs s (λ why. Err why) (Ok (answer.Slots s.made))

unfoldable pub live_after_entry : ℕ → List ℕ → List ℕ → Alloc → Result Answer Refusal
live_after_entry row gprs fprs s =
    judged gprs fprs s (λ why. Err why) (Ok (answer.Registers (live_after 0 row (live s) 0) (live_after 1 row (live s) 0)))

abbrev pub was_used : Reg → Alloc → Bool
was_used r s = has_bit (get_or s.used (class_of r) 0) (index_of r)

unfoldable pub used_entry : Reg → List ℕ → List ℕ → Alloc → Result Answer Refusal
used_entry r gprs fprs s =
    judged gprs fprs s (λ why. Err why) (pick (reg_ok r) (Ok (pick (was_used r s) answer.Yes answer.No)) (Err BadReg))

-- the place of an id: "no place" for an id outside the map; and its register, if it is in one
abbrev pub place_of_id : List ℕ → ℕ → Option Place
place_of_id map id = found_of (get_or map id 0)

abbrev pub if_register : Option Place → Option Place
if_register None = None
if_register (Some (Slot k)) = None
if_register (Some (Register r)) = Some (Register r)

unfoldable pub register_of_id : List ℕ → ℕ → Option Place
register_of_id map id = if_register (place_of_id map id)
