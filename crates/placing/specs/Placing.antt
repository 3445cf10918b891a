-- Judging a function and giving its places, without compiling it: what the entry answers, and what the lent buffers hold afterwards.
use Rattle.std.specs.Prelude.{◌≡◌, ℕ, ◌≤◌, Bool, List, Result, Ok, Err, IfOk, OnErr, leb, eqb, length, take}
use Rattle.std.proofs.lemmas.List.Edits.{sets}
use Rattle.base.specs.Choice.{pick}
use Rattle.base.specs.Buffers.{zero_from}
use Rattle.refusal.specs.declared.Refusal.{Refusal}
use Rattle.refusal.specs.Numbers as refusals
use Rattle.input.specs.Layout.{values}
use Rattle.input.specs.Forms.{both}
use Rattle.judge.specs.Judged.{unfit}
use Rattle.assign.specs.Walk.{assigned, slots_made, top_used, slots_ok}
use Rattle.placing.specs.declared.Placed.{Placed}

-- document 01's number of each answer; the slots made, and one past the highest general register used
abbrev pub number_for : Result Placed Refusal → ℕ
number_for r = refusals.number_for r

abbrev pub slots_for : Result Placed Refusal → ℕ
slots_for (Ok g) = g.slots
slots_for (Err why) = 0

abbrev pub top_for : Result Placed Refusal → ℕ
top_for (Ok g) = g.top
top_for (Err why) = 0

-- 9: each buffer has a word for each value
unfoldable pub room_ok : List ℕ → List ℕ → List ℕ → List ℕ → Bool
room_ok ws map hints noted =
    both (leb (values ws) (length map)) (both (leb (values ws) (length hints)) (leb (values ws) (length noted)))

-- the refusal, the lowest number that applies, 0 for none
unfoldable pub refusal : ℕ → List ℕ → List ℕ → List ℕ → List ℕ → List ℕ → ℕ
refusal n ws functions map hints noted =
    pick (eqb (unfit n ws functions) 0)
    (pick (slots_ok n ws)
    (pick (room_ok ws map hints noted)
    0
    9)
    8)
    (unfit n ws functions)

-- what comes back: the number, slots and registers, and every lent buffer
pub record Outcome : Type 0 where
  pub number : ℕ
  pub slots : ℕ
  pub top : ℕ
  pub map : List ℕ
  pub hints : List ℕ
  pub noted : List ℕ

abbrev pub outcome : Result Placed Refusal → List ℕ → List ℕ → List ℕ → Outcome
outcome answer map hints noted =
    record { number = number_for answer; slots = slots_for answer; top = top_for answer; map = map; hints = hints; noted = noted }

-- The word of each value's place, from the first word of the map on; what lies past them is untouched. A refused call leaves the map as it was.
-- Hints and noted registers are work room, which ends zero either way.
unfoldable pub outcome_of : ℕ → List ℕ → List ℕ → List ℕ → List ℕ → List ℕ → Outcome
outcome_of n ws functions map hints noted =
    pick (eqb (refusal n ws functions map hints noted) 0)
    (record {
      number = 0;
      slots = slots_made n ws;
      top = top_used n ws;
      map = sets map 0 (assigned n ws).map;
      hints = zero_from hints 0;
      noted = zero_from noted 0;
    })
    (record {
      number = refusal n ws functions map hints noted;
      slots = 0;
      top = 0;
      map = map;
      hints = zero_from hints 0;
      noted = zero_from noted 0;
    })

-- ---- inside the compiler, of a function that no refusal from 1 to 7 hits

-- places given: a word for each value in front of the place buffer, and the registers noted for each
pub record PlacesGiven (n : ℕ) (ws places places' noted' : List ℕ) (r : Placed) : Type 0 where
  pub places_is : places' ≡ sets places 0 (assigned n ws).map
  pub places_there : values ws ≤ length places
  pub noted_is : take (values ws) noted' ≡ (assigned n ws).noted
  pub noted_there : values ws ≤ length noted'
  pub slots_is : r.slots ≡ slots_made n ws
  pub slots_few : r.slots ≤ 128
  pub top_is : r.top ≡ top_used n ws
  pub top_low : r.top ≤ 64

pub record PlacesTried (n : ℕ) (ws places hints noted places' noted' : List ℕ) (r : Result Placed Refusal) : Type 0 where
  pub number_is : number_for r ≡ pick (slots_ok n ws) (pick (room_ok ws places hints noted) 0 9) 8
  pub given : IfOk r (λ p. PlacesGiven n ws places places' noted' p)
  pub kept : OnErr r (places' ≡ places)
