-- Edges and calls drop equal pairs: of a column of sources and one of destinations, those that differ.
use Rattle.std.specs.Prelude.{ℕ, List, [], ◌∷◌, eqb}
use Rattle.base.specs.Choice.{pick}
use Rattle.base.specs.Emission.{Out, emit_all}
use Rattle.moves.specs.Moves.{move_words}

abbrev pub differing_sources : List ℕ → List ℕ → List ℕ
differing_sources [] ds = []
differing_sources (s ∷ ss) [] = []
differing_sources (s ∷ ss) (d ∷ ds) = pick (eqb s d) (differing_sources ss ds) (s ∷ differing_sources ss ds)

abbrev pub differing_destinations : List ℕ → List ℕ → List ℕ
differing_destinations [] ds = []
differing_destinations (s ∷ ss) [] = []
differing_destinations (s ∷ ss) (d ∷ ds) = pick (eqb s d) (differing_destinations ss ds) (d ∷ differing_destinations ss ds)

-- the moves that are left, on a machine with n registers
unfoldable pub move_pairs : ℕ → List ℕ → List ℕ → Out → Out
move_pairs n ss ds = emit_all (move_words n (differing_sources ss ds) (differing_destinations ss ds))
