-- Each exit of the entry, over plain variables.
use Rattle.std.specs.Prelude.{Result, Ok, Err}
use Prim.Native.Nat.{ℕ, ◌<◌}
use mathlib.Core.Bool.{Bool, true, false}
use mathlib.Core.List.{List}
use mathlib.Core.Path.{◌≡◌, refl, sym}
use lib.ListN.{length, get_or}
use native.Mathlib.Omega.{arith}
use Rattle.base.specs.Choice.{pick}
use Rattle.base.specs.Buffers.{zero_from}
use Rattle.base.proofs.Buffers.{zero_from-same}
use Rattle.refusal.specs.declared.Refusal.{Refusal}
use Rattle.refusal.specs.Numbers.{number_of}
use Rattle.input.specs.Layout.{head_field}
use Rattle.judge.specs.Judged.{unfit}
use Rattle.judge.proofs.Verdicts.{some}
use Rattle.assign.specs.Walk.{slots_ok}
use Rattle.ready.specs.Ready.{Ready}
use Rattle.ready.proofs.Given.{ready}
use Rattle.place.specs.Registers.{registers}
use Rattle.place.proofs.Registers.{registers_most}
use Rattle.placing.specs.declared.Placed.{Placed}
use Rattle.placing.specs.Placing.{room_ok, refusal, Outcome, outcome, outcome_of, PlacesTried}

-- no refusal from 1 to 7
pub judged_ready : (ws functions : List ℕ) → 0 ≡ unfit registers ws functions → get_or ws 13 0 < 4294967296 → Ready ws
unfolding head_field
judged_ready ws functions fit word = ready registers registers_most ws functions word (sym fit)

passed : (s r : Bool) → ◌≡◌ {A = ℕ} 0 (pick s (pick r 0 9) 8) → (s ≡ true) × (r ≡ true)
passed true true e = (refl, refl)
passed true false e = absurd (omega arith)
passed false r e = absurd (omega arith)

module _ (n : ℕ) (ws functions map hints noted : List ℕ) where
  pub ends-unfit : (why : Refusal) → number_of why ≡ unfit n ws functions
      → outcome (Err why) map (zero_from hints 0) (zero_from noted 0) ≡ outcome_of n ws functions map hints noted
  unfolding outcome_of refusal
  ends-unfit why e = rw (← e, some why, some why)

  -- behind no refusal from 1 to 7, what giving places leaves
  pub ends-tried : 0 ≡ unfit n ws functions → (r : Result Placed Refusal) (map' noted' : List ℕ) → PlacesTried n ws map hints noted map' noted' r
      → outcome r map' (zero_from hints 0) (zero_from noted 0) ≡ outcome_of n ws functions map hints noted
  unfolding outcome_of refusal
  ends-tried fit (Ok p) map' noted' t =
      let e = passed (slots_ok n ws) (room_ok ws map hints noted) t.number_is in
      let g = t.given in
      rw (← fit, e.0, e.1, g.slots_is, g.top_is, g.places_is)
  ends-tried fit (Err why) map' noted' t =
      rw (← fit, ← t.number_is, some why, t.kept)

-- the work room zeroed, whatever was left there
pub ends-zero : (r : Result Placed Refusal) (map hints hints' noted noted' : List ℕ) (o : Outcome) → length hints' ≡ length hints → length noted' ≡ length noted
    → outcome r map (zero_from hints 0) (zero_from noted 0) ≡ o → outcome r map (zero_from hints' 0) (zero_from noted' 0) ≡ o
ends-zero r map hints hints' noted noted' o eh en e = rw (zero_from-same hints' hints 0 refl eh, zero_from-same noted' noted 0 refl en) e
