-- Placements one after the other from a fresh state. Call k is three numbers: the row, the end, and the hint, 0 for none, else 1 + the register;
-- it places value k, of the general class.
use Rattle.std.specs.Prelude.{ℕ, zero, suc, ◌+◌, ◌*◌, ◌/◌, List, [], length, get_or}
use Rattle.alloc.specs.declared.Alloc.{Alloc}
use Rattle.alloc.specs.State.{fresh_of}
use Rattle.alloc.specs.Allocation.{place_of, map_after_place}
use Rattle.assign.specs.Walk.{hint_for}

pub record Placed : Type 0 where
  pub state : Alloc
  pub map : List ℕ

abbrev pub placed : Alloc → List ℕ → Placed
placed state map = record { state = state; map = map }

unfoldable pub place : List ℕ → List ℕ → ℕ → Placed → Placed
place calls pool k p =
    placed (place_of p.map k 0 (get_or calls (3 * k) 0) (get_or calls (3 * k + 1) 0) (hint_for (get_or calls (3 * k + 2) 0)) pool p.state).state
    (map_after_place p.map k 0 (get_or calls (3 * k) 0) (hint_for (get_or calls (3 * k + 2) 0)) pool p.state)

-- n calls from call k on
unfoldable pub places : List ℕ → List ℕ → ℕ → ℕ → Placed → Placed
places calls pool k zero p = p
places calls pool k (suc n) p = places calls pool (k + 1) n (place calls pool k p)

unfoldable pub all_placed : List ℕ → List ℕ → List ℕ → Placed
all_placed calls pool map = places calls pool 0 (length calls / 3) (placed (fresh_of pool []) map)
