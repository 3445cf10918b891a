-- The walk unmakes no slot.
use Prim.Native.Nat.{ℕ, ◌≤◌}
use mathlib.Core.List.{List, [], ◌∷◌}
use native.Mathlib.Omega.{arith}
use Rattle.std.specs.Prelude.{Option, Some, None}
use Rattle.base.proofs.Numbers.{pick-both}
use Rattle.place.specs.declared.Place.{Place}
use Rattle.place.specs.declared.Reg.TheVariants.{Gpr}
use Rattle.place.specs.Places.{found_of}
use Rattle.alloc.specs.declared.Alloc.{Alloc}
use Rattle.alloc.specs.declared.Taken.{Taken}
use Rattle.alloc.specs.Allocation.{is_free, new_place, place_again, place_of}
use Rattle.input.specs.Records.{end_of}
use Rattle.assign.specs.Steps.{Step, pin, place, note, hint}
use Rattle.assign.specs.Walk.{Walk, wish_of, place_step, pin_step, note_step, hint_step, step, run}
use Rattle.sharing.proofs.Placing.{word, new_made, pin_made}

again_made : (s : Alloc) (f : Option Place) (new : Taken) → s.made ≤ new.state.made → s.made ≤ (place_again s f new).state.made
again_made s (Some p) new h = omega arith
again_made s None new h = h

module _ (ws pool : List ℕ) where
  place_made : (r v : ℕ) (w : Walk) → w.alloc.made ≤ (place_step ws pool r v w).alloc.made
  unfolding place_step place_of
  place_made r v w =
      again_made w.alloc (found_of (word w v)) (new_place 0 r (end_of ws v) (wish_of w v) pool w.alloc)
      (new_made 0 r (end_of ws v) (wish_of w v) pool w.alloc)

  pin-step_made : (r k v : ℕ) (w : Walk) → w.alloc.made ≤ (pin_step ws pool r k v w).alloc.made
  unfolding pin_step
  pin-step_made r k v w =
      pick-both (λ (u : Walk). w.alloc.made ≤ u.alloc.made) (is_free (Gpr k) w.alloc) _ _
      (pin_made (Gpr k) (end_of ws v) w.alloc) (place_made r v w)

  step_made : (x : Step) (w : Walk) → w.alloc.made ≤ (step ws pool x w).alloc.made
  unfolding step note_step hint_step
  step_made (pin r k v) w = pin-step_made r k v w
  step_made (place r v) w = place_made r v w
  step_made (note r v) w = omega arith
  step_made (hint a p) w = omega arith

  pub run_made : (ss : List Step) (w : Walk) → w.alloc.made ≤ (run ws pool ss w).alloc.made
  unfolding run
  run_made [] w = omega arith
  run_made (s ∷ ss) w = omega (arith, step_made s w, run_made ss (step ws pool s w))
