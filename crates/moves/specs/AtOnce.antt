-- What a list of moves is to do, as demand 3 says it: as if all were made at once.
use Rattle.std.specs.Prelude.{◌≡◌, ◌≢◌, Bool, true, false, ℕ, ◌+◌, ◌-◌, ◌≤◌, ◌<◌, List, [], ◌∷◌, length, get_or, ltb}
use Rattle.base.specs.Choice.{pick}
use Rattle.base.specs.Lists.{among, distinct}
use Rattle.place.specs.Registers.{scratch_of, tmp_of, in_pool}
use Rattle.place.specs.Places.{slots_from}
use Rattle.machine.specs.Machine.{State, World, run_words, holds}
use Rattle.moves.specs.Moves.{moves, move_words, turns}

-- a pool register, or one of so many slots
abbrev pub place_ok : ℕ → ℕ → ℕ → Bool
place_ok n slots p = pick (ltb p slots_from) (in_pool n p) (ltb (p - slots_from) slots)

abbrev pub all_ok : ℕ → ℕ → List ℕ → Bool
all_ok n slots [] = true
all_ok n slots (p ∷ ps) = pick (place_ok n slots p) (all_ok n slots ps) false

-- a list of moves: as many sources as destinations, distinct destinations, and each place a pool register or one of so many slots
abbrev pub moves_ok : ℕ → ℕ → List ℕ → List ℕ → Bool
moves_ok n slots ss ds = pick (all_ok n slots ss) (pick (all_ok n slots ds) (distinct ds) false) false

-- From st to st' each destination got what its source held, and nothing else changed but SCRATCH and TMP.
pub record MovedAtOnce (n : ℕ) (ss ds : List ℕ) (st st' : State) : Type 0 where
  pub arrived : (i : ℕ) → i < length ds → holds st' (get_or ds i 0) ≡ holds st (get_or ss i 0)
  pub register_kept : (r : ℕ) → r < slots_from → r ≢ scratch_of n → r ≢ tmp_of n → among r ds ≡ false → st'.regs r ≡ st.regs r
  pub slot_kept : (k : ℕ) → among (slots_from + k) ds ≡ false → get_or st'.stack k 0 ≡ get_or st.stack k 0
  pub height_kept : length st'.stack ≡ length st.stack

-- The theorem on moves: over every N from 22 to 64, every list of moves and every state of the machine with at least so many slots on the
-- stack, what the rule emits, run from that state, moves all at once. And the rule ends: turns past those it takes emit nothing.
pub record MovesRight (n : ℕ) : Type 0 where
  pub at_once : (w : World) (slots : ℕ) (ss ds : List ℕ) (st : State) → length ss ≡ length ds → moves_ok n slots ss ds ≡ true
      → slots ≤ length st.stack → slots ≤ 256 → MovedAtOnce n ss ds st (run_words w (move_words n ss ds) st)
  pub ends : (slots more : ℕ) (ss ds : List ℕ) → length ss ≡ length ds → moves_ok n slots ss ds ≡ true
      → turns (scratch_of n) (tmp_of n) (length ds + length ds + more) ss ds ≡ moves n ss ds

abbrev pub MovesTheorem : Type 0
MovesTheorem = (n : ℕ) → 22 ≤ n → n ≤ 64 → MovesRight n
