-- What a placement and a pin answer of a state that was judged.
use Rattle.std.specs.Prelude.{ℕ, List, Option, Some, Ok, Err}
use Rattle.base.specs.Choice.{pick}
use Rattle.place.specs.declared.Reg.{Reg}
use Rattle.place.specs.declared.Place.TheVariants.{Register}
use Rattle.refusal.specs.declared.Refusal.TheVariants.{NoSlot, BadReg}
use Rattle.alloc.specs.declared.Alloc.{Alloc}
use Rattle.alloc.specs.Allocation.{place_of, map_after_place, pin_of, map_after_pin, is_free}
use Rattle.alloc_entry.specs.declared.Answer.TheVariants as answer
use Rattle.alloc_entry.specs.declared.Answered.{Answered}
use Rattle.alloc_entry.specs.Entries.{answered, no_slot, got_answer, call_ok}

unfoldable pub place_in : List ℕ → ℕ → ℕ → ℕ → ℕ → Option Reg → List ℕ → Alloc → Answered
place_in map id class at end h pool s =
    pick (no_slot (place_of map id class at end h pool s).got) (answered (Err NoSlot) s)
    (pick (call_ok map id h)
    (answered (got_answer (place_of map id class at end h pool s).got) (place_of map id class at end h pool s).state)
    (answered (Err BadReg) s))

unfoldable pub place_in_map : List ℕ → ℕ → ℕ → ℕ → ℕ → Option Reg → List ℕ → Alloc → List ℕ
place_in_map map id class at end h pool s =
    pick (no_slot (place_of map id class at end h pool s).got) map
    (pick (call_ok map id h) (map_after_place map id class at h pool s) map)

unfoldable pub pin_in : List ℕ → ℕ → Reg → ℕ → Alloc → Answered
pin_in map id r end s =
    pick (call_ok map id (Some r))
    (pick (is_free r s) (answered (Ok (answer.Placed (Register r))) (pin_of r end s)) (answered (Ok answer.NotFree) s))
    (answered (Err BadReg) s)

unfoldable pub pin_in_map : List ℕ → ℕ → Reg → Alloc → List ℕ
pin_in_map map id r s = pick (call_ok map id (Some r)) (map_after_pin map id r s) map
