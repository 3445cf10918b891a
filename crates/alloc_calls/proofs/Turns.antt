-- The calls that are left, over plain variables: all of them, one turn, and none.
use Prim.Native.Nat.{ℕ, suc, ◌+◌, ◌-◌, ◌/◌, ◌<◌, ◌≤◌}
use mathlib.Core.List.{List, []}
use mathlib.Core.Path.{◌≡◌, ap, ◌∙◌}
use native.Mathlib.Omega.{arith}
use lib.ListN.{length}
use Rattle.alloc.specs.declared.Alloc.{Alloc}
use Rattle.alloc.specs.State.{fresh_of}
use Rattle.alloc_calls.specs.Placements.{Placed, placed, place, places, all_placed}

module _ (calls pool : List ℕ) where
  -- from a fresh state all are left
  pub places_all : (s : Alloc) (map : List ℕ) → s ≡ fresh_of pool []
      → places calls pool 0 (length calls / 3 - 0) (placed s map) ≡ all_placed calls pool map
  unfolding all_placed
  places_all s map e =
      let z : length calls / 3 - 0 ≡ length calls / 3 = omega arith in
      ap (λ (m : ℕ). places calls pool 0 m (placed s map)) z
      ∙ ap (λ (x : Alloc). places calls pool 0 (length calls / 3) (placed x map)) e

  module _ (k n : ℕ) (p : Placed) where
    -- a turn places call k
    pub places-turn : k < n → places calls pool k (n - k) p ≡ places calls pool (k + 1) (n - (k + 1)) (place calls pool k p)
    unfolding places
    places-turn h = let e : n - k ≡ suc (n - (k + 1)) = omega arith in ap (λ (m : ℕ). places calls pool k m p) e

    -- none is left
    pub places-end : n ≤ k → places calls pool k (n - k) p ≡ p
    unfolding places
    places-end h = let e : n - k ≡ 0 = omega arith in ap (λ (m : ℕ). places calls pool k m p) e
