-- A refused call changes nothing, neither the state nor the map.
use mathlib.Core.Path.{◌≡◌, refl}
use mathlib.Core.Bool.{Bool, true, false}
use mathlib.Core.List.{List}
use Prim.Native.Nat.{ℕ}
use Rattle.std.specs.Prelude.{Option, Some, None, Result, Ok, Err}
use Rattle.base.specs.Choice.{pick}
use Rattle.base.proofs.Numbers.{pick-both}
use Rattle.place.specs.declared.Place.{Place}
use Rattle.place.specs.declared.Reg.{Reg}
use Rattle.place.specs.declared.Place.TheVariants.{Register}
use Rattle.refusal.specs.declared.Refusal.{Refusal}
use Rattle.refusal.specs.declared.Refusal.TheVariants.{TooMany, NoSlot, BadReg}
use Rattle.alloc.specs.declared.Alloc.{Alloc}
use Rattle.alloc.specs.declared.Taken.{Taken}
use Rattle.alloc.specs.Allocation.{expire_of, place_of, is_free, pin_of, map_after_pin}
use Rattle.alloc_entry.specs.declared.Answer.{Answer}
use Rattle.alloc_entry.specs.declared.Answer.TheVariants as answer
use Rattle.alloc_entry.specs.declared.Answered.{Answered}
use Rattle.alloc_state.specs.Judged.{state_ok, lists_short}
use Rattle.alloc_entry.specs.Entries.{answer_number, answered, no_slot, got_answer, pool_of, call_ok, place_entry, place_entry_map, pin_entry, pin_entry_map, expire_entry}
use Rattle.alloc_state.proofs.Distinct.{true-not-false}

-- two choices by one test
pick_two : {A B : Type 0} (Q : A → B → Type 0) (t : Bool) (a b : A) (x y : B) → (t ≡ true → Q a x) → (t ≡ false → Q b y) → Q (pick t a b) (pick t x y)
pick_two Q true a b x y f g = f refl
pick_two Q false a b x y f g = g refl

module _ (s : Alloc) (map : List ℕ) where
  abbrev pub Unchanged : Answered → List ℕ → Type 0
  Unchanged t m = (answer_number t.answer ≡ 0 → ⊥) → (t.state ≡ s) × (m ≡ map)

  same : (a : Result Answer Refusal) → Unchanged (answered a s) map
  same a n = (refl, refl)

  done : (t : Alloc) (m : List ℕ) (a : Result Answer Refusal) → answer_number a ≡ 0 → Unchanged (answered a t) m
  done t m a e n = absurd (n e)

  judged-same : (gprs fprs : List ℕ) (t : Answered) (m : List ℕ) → Unchanged t m
      → Unchanged (pick (lists_short gprs fprs) (pick (state_ok gprs fprs s) t (answered (Err BadReg) s)) (answered (Err TooMany) s))
      (pick (lists_short gprs fprs) (pick (state_ok gprs fprs s) m map) map)
  judged-same gprs fprs t m u =
      pick_two Unchanged (lists_short gprs fprs) _ _ _ _
      (λ e. pick_two Unchanged (state_ok gprs fprs s) _ _ _ _ (λ f. u) (λ f. same (Err BadReg))) (λ e. same (Err TooMany))

  got_done : (g : Option Place) → no_slot g ≡ false → answer_number (got_answer g) ≡ 0
  got_done (Some p) e = refl
  got_done None e = absurd (true-not-false e)

  module _ (gprs fprs : List ℕ) where
    pub place_unchanged : (id class at end : ℕ) (h : Option Reg) → Unchanged (place_entry map id class at end h gprs fprs s) (place_entry_map map id class at end h gprs fprs s)
    unfolding place_entry place_entry_map
    place_unchanged id class at end h =
        let t : Taken = place_of map id class at end h (pool_of gprs fprs class) s in
        judged-same gprs fprs _ _
        (pick_two Unchanged (no_slot t.got) _ _ _ _ (λ e. same (Err NoSlot))
        (λ e. pick_two Unchanged (call_ok map id h) _ _ _ _ (λ f. done t.state _ (got_answer t.got) (got_done t.got e)) (λ f. same (Err BadReg))))

    pub pin_unchanged : (id : ℕ) (r : Reg) (end : ℕ) → Unchanged (pin_entry map id r end gprs fprs s) (pin_entry_map map id r gprs fprs s)
    unfolding pin_entry pin_entry_map map_after_pin
    pin_unchanged id r end =
        judged-same gprs fprs _ _
        (pick_two Unchanged (call_ok map id (Some r)) _ _ _ _
        (λ e. pick_two Unchanged (is_free r s) _ _ _ _ (λ f. done (pin_of r end s) _ (Ok (answer.Placed (Register r))) refl) (λ f. done s map (Ok answer.NotFree) refl)) (λ e. same (Err BadReg)))

    abbrev Kept : Answered → Type 0
    Kept t = (answer_number t.answer ≡ 0 → ⊥) → t.state ≡ s

    pub expire_unchanged : (at : ℕ) → Kept (expire_entry at gprs fprs s)
    unfolding expire_entry
    expire_unchanged at =
        pick-both Kept (lists_short gprs fprs) _ _
        (pick-both Kept (state_ok gprs fprs s) (answered (Ok answer.Done) (expire_of at s)) _ (λ n. absurd (n refl)) (λ n. refl)) (λ n. refl)
