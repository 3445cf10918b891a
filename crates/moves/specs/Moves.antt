-- Moves: while any remain, emit the first whose destination is no remaining source and fill its gap with the last; if none, copy the first
-- source to SCRATCH and read it there instead. Slot to slot goes through TMP.
-- A list of moves is two columns of place numbers, sources and destinations.
use Rattle.std.specs.Prelude.{ℕ, zero, suc, ◌+◌, ◌-◌, List, [], ◌∷◌, ◌++◌, map, length, get_or, take, set, ltb, eqb}
use Rattle.base.specs.Choice.{pick}
use Rattle.base.specs.Lists.{among}
use Rattle.place.specs.Registers.{scratch_of, tmp_of}
use Rattle.place.specs.Places.{slots_from}
use Rattle.op.specs.declared.Op.{Op}
use Rattle.op.specs.Words.{word}
use Rattle.op.specs.Ops.{mov, load_slot, store_slot}

-- one move from a place to a place
abbrev pub move_ops : ℕ → ℕ → ℕ → List Op
move_ops tmp s d =
    pick (ltb s slots_from)
    (pick (ltb d slots_from) (mov d s ∷ []) (store_slot (d - slots_from) s ∷ []))
    (pick (ltb d slots_from) (load_slot d (s - slots_from) ∷ []) (load_slot tmp (s - slots_from) ∷ store_slot (d - slots_from) tmp ∷ []))

-- the first whose destination is no remaining source; past the end where there is none
abbrev pub first_ready : List ℕ → List ℕ → ℕ
first_ready ss [] = 0
first_ready ss (d ∷ ds) = pick (among d ss) (suc (first_ready ss ds)) 0

-- element i goes and the last fills its gap
unfoldable pub swap_remove : List ℕ → ℕ → List ℕ
swap_remove l i = take (length l - 1) (set l i (get_or l (length l - 1) 0))

-- every source x is read at sc instead
abbrev pub park : ℕ → ℕ → List ℕ → List ℕ
park x sc [] = []
park x sc (s ∷ ss) = pick (eqb s x) sc s ∷ park x sc ss

-- One turn: what it emits, the sources and the destinations that remain after it, and how many sources it parked. Where no move remains it
-- does nothing.
unfoldable pub turn_ops : ℕ → ℕ → List ℕ → List ℕ → List Op
turn_ops sc tmp ss ds =
    pick (ltb (first_ready ss ds) (length ds))
    (move_ops tmp (get_or ss (first_ready ss ds) 0) (get_or ds (first_ready ss ds) 0))
    (pick (ltb 0 (length ds)) (move_ops tmp (get_or ss 0 0) sc) [])

unfoldable pub turn_sources : ℕ → List ℕ → List ℕ → List ℕ
turn_sources sc ss ds =
    pick (ltb (first_ready ss ds) (length ds)) (swap_remove ss (first_ready ss ds)) (park (get_or ss 0 0) sc ss)

unfoldable pub turn_destinations : List ℕ → List ℕ → List ℕ
turn_destinations ss ds = pick (ltb (first_ready ss ds) (length ds)) (swap_remove ds (first_ready ss ds)) ds

unfoldable pub turn_parks : List ℕ → List ℕ → ℕ
turn_parks ss ds = pick (ltb (first_ready ss ds) (length ds)) 0 (pick (ltb 0 (length ds)) 1 0)

-- so many turns: the ops, and how many sources were parked
unfoldable pub turns : ℕ → ℕ → ℕ → List ℕ → List ℕ → List Op
turns sc tmp zero ss ds = []
turns sc tmp (suc f) ss ds = turn_ops sc tmp ss ds ++ turns sc tmp f (turn_sources sc ss ds) (turn_destinations ss ds)

unfoldable pub parks_in : ℕ → ℕ → List ℕ → List ℕ → ℕ
parks_in sc zero ss ds = 0
parks_in sc (suc f) ss ds = turn_parks ss ds + parks_in sc f (turn_sources sc ss ds) (turn_destinations ss ds)

-- The rule, on a machine with n registers: two turns for each move, by which none remains.
unfoldable pub moves : ℕ → List ℕ → List ℕ → List Op
moves n ss ds = turns (scratch_of n) (tmp_of n) (length ds + length ds) ss ds

unfoldable pub parked_in : ℕ → List ℕ → List ℕ → ℕ
parked_in n ss ds = parks_in (scratch_of n) (length ds + length ds) ss ds

-- as op words
unfoldable pub move_words : ℕ → List ℕ → List ℕ → List ℕ
move_words n ss ds = map word (moves n ss ds)
