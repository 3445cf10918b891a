-- Each op that the rule emits fits its bits, so the words of a list of moves are those of its ops.
use mathlib.Core.Path.{◌≡◌, refl}
use mathlib.Core.Logic.{⊎_elim}
use Prim.Native.Nat.{ℕ, zero, suc, ◌+◌, ◌-◌, ◌^◌, ◌≤◌, ◌<◌}
use mathlib.Core.List.Memᴰ
use mathlib.Core.List.{List, [], ◌∷◌, ◌++◌, map, Memᴰ}
use mathlib.Core.Bool.{true}
use native.Mathlib.Omega.{arith}
use borrow.Author.Tests.{ltb-true}
use lib.ListN.{length, get_or}
use lib.Dec.{ltb}
use Rattle.base.proofs.Numbers.{pick_case, pick-both}
use Rattle.place.specs.Places.{slots_from}
use Rattle.place.specs.Registers.{scratch_of, tmp_of}
use Rattle.op.specs.declared.Op.{Op}
use Rattle.op.specs.Words.{Ranged, word, parts}
use Rattle.op.specs.Ops.{op, load_slot, store_slot}
use Rattle.op.proofs.Words.{parts-word}
use Rattle.moves.specs.Moves.{move_ops, first_ready, turn_ops, turn_sources, turn_destinations, turns, moves, move_words}
use Rattle.moves.specs.AtOnce.{moves_ok}
use Rattle.moves.proofs.Columns.{Each, each_read, swap_each, park-each}
use Rattle.moves.proofs.Checked.{Checked, moves_checked, place-within}

-- each op of a list fits its bits
abbrev pub AllRanged : List Op → Type 0
AllRanged os = (o : Op) → Memᴰ o os → Ranged o

-- back from the words of such a list
pub parts_words : (os : List Op) → AllRanged os → map parts (map word os) ≡ os
parts_words [] r = refl
parts_words (o ∷ os) r = rw (parts-word o (r o (Memᴰ.head refl)), parts_words os (λ p m. r p (Memᴰ.tail m)))

-- an op with no third byte, alone
one_ranged : (code a b w : ℕ) → code < 2 ^ 8 → a < 2 ^ 8 → b < 2 ^ 8 → w < 2 ^ 32 → AllRanged (op code a b 0 w ∷ [])
one_ranged code a b w h i j k o m =
    let r : Ranged (op code a b 0 w) = record { code = h; a = i; b = j; c = omega arith; w = k } in
    rw (Memᴰ.eq_of_singleton m) r

-- two lists in a row
pub append_ranged : (a b : List Op) → AllRanged a → AllRanged b → AllRanged (a ++ b)
append_ranged a b r q o m = ⊎_elim (λ (k : Memᴰ o a). r o k) (λ (k : Memᴰ o b). q o k) (Memᴰ.append_cases a m)

-- a place's number that a list of moves may have
abbrev Small : ℕ → Type 0
Small p = p < 2 ^ 32

module _ (sc tmp : ℕ) (hsc : sc < slots_from) (ht : tmp < slots_from) where
  move_ranged : (s d : ℕ) → Small s → Small d → AllRanged (move_ops tmp s d)
  move_ranged s d hs hd =
      pick_case AllRanged (ltb s slots_from) _ _
      (λ e.
      let a : s < slots_from = ltb-true s slots_from e in
      pick_case AllRanged (ltb d slots_from) _ _
      (λ e'. let b : d < slots_from = ltb-true d slots_from e' in one_ranged 2 d s 0 (omega arith) (omega arith) (omega arith) (omega arith))
      (λ _. one_ranged 24 s 0 (d - slots_from) (omega arith) (omega arith) (omega arith) (omega arith)))
      (λ _.
      pick_case AllRanged (ltb d slots_from) _ _
      (λ e'.
      let b : d < slots_from = ltb-true d slots_from e' in
      one_ranged 25 d 0 (s - slots_from) (omega arith) (omega arith) (omega arith) (omega arith))
      (λ _.
      append_ranged (load_slot tmp (s - slots_from) ∷ []) (store_slot (d - slots_from) tmp ∷ [])
      (one_ranged 25 tmp 0 (s - slots_from) (omega arith) (omega arith) (omega arith) (omega arith))
      (one_ranged 24 tmp 0 (d - slots_from) (omega arith) (omega arith) (omega arith) (omega arith))))

  turn_ranged : (ss ds : List ℕ) → Each Small ss → Each Small ds → AllRanged (turn_ops sc tmp ss ds)
  unfolding turn_ops
  turn_ranged ss ds hs hd =
      let s : (j : ℕ) → get_or ss j 0 < 2 ^ 32 = each_read Small ss (omega arith) hs in
      let d : (j : ℕ) → get_or ds j 0 < 2 ^ 32 = each_read Small ds (omega arith) hd in
      let c : sc < 2 ^ 32 = omega arith in
      pick-both AllRanged (ltb (first_ready ss ds) (length ds)) _ _
      (move_ranged (get_or ss (first_ready ss ds) 0) (get_or ds (first_ready ss ds) 0) (s (first_ready ss ds)) (d (first_ready ss ds)))
      (pick-both AllRanged (ltb 0 (length ds)) _ _ (move_ranged (get_or ss 0 0) sc (s 0) c) (λ o m. absurd (Memᴰ.not-nil m)))

  turns_ranged : (f : ℕ) (ss ds : List ℕ) → Each Small ss → Each Small ds → AllRanged (turns sc tmp f ss ds)
  unfolding turns turn_sources turn_destinations
  turns_ranged zero ss ds hs hd = λ o m. absurd (Memᴰ.not-nil m)
  turns_ranged (suc f) ss ds hs hd =
      let c : sc < 2 ^ 32 = omega arith in
      append_ranged (turn_ops sc tmp ss ds) (turns sc tmp f (turn_sources sc ss ds) (turn_destinations ss ds)) (turn_ranged ss ds hs hd)
      (turns_ranged f (turn_sources sc ss ds) (turn_destinations ss ds)
      (pick-both (Each Small) (ltb (first_ready ss ds) (length ds)) _ _
      (swap_each Small ss (first_ready ss ds) hs) (park-each Small (get_or ss 0 0) sc ss c hs))
      (pick-both (Each Small) (ltb (first_ready ss ds) (length ds)) _ _ (swap_each Small ds (first_ready ss ds) hd) hd))

pub moves_ranged : (n slots : ℕ) (ss ds : List ℕ) → moves_ok n slots ss ds ≡ true → slots ≤ 256 → n ≤ 64 → AllRanged (moves n ss ds)
unfolding moves
moves_ranged n slots ss ds ok h k =
    let c : Checked n slots ss ds = moves_checked n slots ss ds ok in
    turns_ranged (scratch_of n) (tmp_of n) (omega arith) (omega arith) (length ds + length ds) ss ds
    (λ j q. let e = place-within n slots (get_or ss j 0) (c.sources j q) in omega arith)
    (λ j q. let e = place-within n slots (get_or ds j 0) (c.destinations j q) in omega arith)

-- back from the words of a list of moves
pub moves-parts : (n slots : ℕ) (ss ds : List ℕ) → moves_ok n slots ss ds ≡ true → slots ≤ 256 → n ≤ 64
    → map parts (move_words n ss ds) ≡ moves n ss ds
unfolding move_words
moves-parts n slots ss ds ok h k = parts_words (moves n ss ds) (moves_ranged n slots ss ds ok h k)
