-- What the moves left emit in the turns left gives the whole: one law each for a ready move, a parked source and the two ends.
use Prim.Native.Nat.{ℕ, ◌+◌, ◌-◌, ◌≤◌}
use mathlib.Core.List.{List}
use lib.ListN.{take}
use Rattle.base.specs.Emission.{emit_all}
use Rattle.base.proofs.Pens.{Left}
use Rattle.place.specs.Registers.{registers}
use Rattle.moves.specs.Moves.{move_words}
use Rattle.moves_code.proofs.Emitting.{rest_of}
use Rattle.moves_code.proofs.put_moves.Given as goal

abbrev pub invariant-loop-turn : goal.invariant-loop-turn
invariant-loop-turn v =
    (v.left ≤ v.n)
    × ((l : List ℕ) → Left (rest_of registers (v.n + v.n - v._turn) v.src v.dst v.left) (emit_all (move_words registers (take v.n v.initial.src) (take v.n v.initial.dst))) v.initial.ops v.initial.spans l v.initial.q v.ops v.spans l v.q)
