-- The rule's own laws, by which both the code and the theorem go: what a turn does, and how many ops there are at most.
use mathlib.Core.Path.{◌≡◌, refl}
use Prim.Native.Nat.{ℕ, zero, suc, ◌+◌, ◌*◌, ◌≤◌, ◌<◌, zero-le}
use mathlib.Core.List.{List, [], ◌∷◌, ◌++◌}
use native.Mathlib.Omega.{arith}
use borrow.Author.Tests.{lt-ltb, le-ltb}
use lib.ListN.{length, get_or, length-append}
use lib.Dec.{ltb}
use Rattle.base.proofs.Numbers.{pick-both}
use Rattle.place.specs.Places.{slots_from}
use Rattle.op.specs.declared.Op.{Op}
use Rattle.moves.specs.Moves.{move_ops, first_ready, swap_remove, park, turn_ops, turn_sources, turn_destinations, turns, moves}

module _ (sc tmp : ℕ) where
  -- a turn that emits the first ready move, and one that parks
  pub turns_ready : (f : ℕ) (ss ds : List ℕ) → first_ready ss ds < length ds
      → turns sc tmp (suc f) ss ds
      ≡ move_ops tmp (get_or ss (first_ready ss ds) 0) (get_or ds (first_ready ss ds) 0) ++ turns sc tmp f (swap_remove ss (first_ready ss ds)) (swap_remove ds (first_ready ss ds))
  unfolding turns turn_ops turn_sources turn_destinations
  turns_ready f ss ds h = rw (lt-ltb (first_ready ss ds) (length ds) h)

  pub turns-park : (f : ℕ) (ss ds : List ℕ) → length ds ≤ first_ready ss ds → 0 < length ds
      → turns sc tmp (suc f) ss ds ≡ move_ops tmp (get_or ss 0 0) sc ++ turns sc tmp f (park (get_or ss 0 0) sc ss) ds
  unfolding turns turn_ops turn_sources turn_destinations
  turns-park f ss ds h q = rw (le-ltb (first_ready ss ds) (length ds) h, lt-ltb 0 (length ds) q)

  -- where no move remains a turn does nothing
  pub none_left : (f : ℕ) (ss ds : List ℕ) → length ds ≡ 0 → turns sc tmp f ss ds ≡ []
  unfolding turns turn_ops turn_sources turn_destinations
  none_left zero ss ds e = refl
  none_left (suc f) ss [] e = none_left f (park (get_or ss 0 0) sc ss) [] refl
  none_left (suc f) ss (d ∷ ds) e = absurd (omega arith)

  -- no turn emits more than two ops
  move_two : (s d : ℕ) → length (move_ops tmp s d) ≤ 2
  move_two s d =
      pick-both (λ (os : List Op). length os ≤ 2) (ltb s slots_from) _ _
      (pick-both (λ (os : List Op). length os ≤ 2) (ltb d slots_from) _ _ (omega arith) (omega arith))
      (pick-both (λ (os : List Op). length os ≤ 2) (ltb d slots_from) _ _ (omega arith) (omega arith))

  turn_two : (ss ds : List ℕ) → length (turn_ops sc tmp ss ds) ≤ 2
  unfolding turn_ops
  turn_two ss ds =
      pick-both (λ (os : List Op). length os ≤ 2) (ltb (first_ready ss ds) (length ds)) _ _
      (move_two (get_or ss (first_ready ss ds) 0) (get_or ds (first_ready ss ds) 0))
      (pick-both (λ (os : List Op). length os ≤ 2) (ltb 0 (length ds)) (move_ops tmp (get_or ss 0 0) sc) [] (move_two (get_or ss 0 0) sc) (omega arith))

  pub turns-short : (f : ℕ) (ss ds : List ℕ) → length (turns sc tmp f ss ds) ≤ 2 * f
  unfolding turns
  turns-short zero ss ds = zero-le
  turns-short (suc f) ss ds =
      rw length-append
      (omega (arith, turn_two ss ds, turns-short f (turn_sources sc ss ds) (turn_destinations ss ds)))

pub moves-short : (n : ℕ) (ss ds : List ℕ) → length (moves n ss ds) ≤ 4 * length ds
unfolding moves
moves-short n ss ds =
    let e : 2 * (length ds + length ds) ≡ 4 * length ds = omega arith in
    rw (← e) (turns-short _ _ (length ds + length ds) ss ds)
