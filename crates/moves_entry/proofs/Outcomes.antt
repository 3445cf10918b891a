-- What comes back, by the tests that led there.
use mathlib.Core.Path.{◌≡◌, refl, sym}
use mathlib.Core.Logic.{⊎_elim}
use Rattle.std.proofs.Common.{Ok, Err}
use mathlib.Core.Bool.{Bool, true, false, true≢false}
use mathlib.Core.List.{List}
use Prim.Native.Nat.{ℕ, ◌+◌, ◌≤◌, ◌<◌, min}
use native.Mathlib.Omega.{arith}
use borrow.Author.Tests.{leb-true, le-leb, lt-leb}
use lib.ListN.{length, take, drop, replicate, length-replicate}
use lib.Seq.{sets, take_at}
use lib.Dec.{leb}
use Rattle.base.specs.Choice.{pick}
use Rattle.base.specs.Limits.{most_moves, most_of_a_kind}
use Rattle.base.proofs.Numbers.{lt?}
use Rattle.base.proofs.Lists.{sets-front}
use Rattle.moves.specs.Moves.{move_words}
use Rattle.moves.specs.AtOnce.{moves_ok}
use Rattle.refusal.specs.declared.Refusal.TheVariants.{TooMany, NoRoom, BadMove}
use Rattle.moves_entry.specs.declared.Move.{Move}
use Rattle.moves_entry.specs.declared.Columns.{Columns}
use Rattle.moves_entry.specs.Entry.{sources_of, destinations_of, move_slots, Outcome, outcome, few_enough, outcome_of}
use Rattle.moves_entry.specs.Gathering.{columns_of, sources_in, destinations_in, Fresh, appended, columns_outcome}
use Rattle.moves_entry.proofs.Gathering.{length_sources, length_destinations}

-- four tests that all hold
all_four : (a b c d : Bool) → pick a (pick b (pick c d false) false) false ≡ true → (a ≡ true) × ((b ≡ true) × ((c ≡ true) × (d ≡ true)))
all_four true true true d h = (refl, (refl, (refl, h)))
all_four true true false d h = absurd (true≢false (sym h))
all_four true false c d h = absurd (true≢false (sym h))
all_four false b c d h = absurd (true≢false (sym h))

-- the first test
pub record Few (count used : ℕ) (ops spans : List ℕ) : Type 0 where
  pub moves : count ≤ most_moves
  pub in_ops : used ≤ length ops
  pub in_spans : used ≤ length spans
  pub in_all : used ≤ most_of_a_kind

-- what passing it says
pub few : (count used : ℕ) (ops spans : List ℕ) → few_enough count used ops spans ≡ true → Few count used ops spans
few count used ops spans h =
    let t = all_four (leb count most_moves) (leb used (length ops)) (leb used (length spans)) (leb used most_of_a_kind) h in
    record {
      moves = leb-true _ _ t.0;
      in_ops = leb-true _ _ t.1.0;
      in_spans = leb-true _ _ t.1.1.0;
      in_all = leb-true _ _ t.1.1.1;
    }

module _ (words : List ℕ) (used span : ℕ) (ops spans : List ℕ) where
  -- a buffer is too short
  pub no_room : (n : ℕ) → n ≡ length words → min most_of_a_kind (min (length ops) (length spans)) < used + n → outcome (Err NoRoom) ops spans ≡ appended words used span ops spans
  unfolding appended
  no_room n e h =
      let l : min most_of_a_kind (min (length ops) (length spans)) < used + length words = omega arith in
      rw (lt-leb (used + length words) (min most_of_a_kind (min (length ops) (length spans))) l)

  -- the words are copied
  pub all_copied : (n : ℕ) (front marks ops' spans' : List ℕ) → Fresh words span front marks n → used + n ≤ most_of_a_kind → used + n ≤ length ops → used + n ≤ length spans
      → ops' ≡ sets ops used (take n front) → spans' ≡ sets spans used (take n marks) → outcome (Ok (used + n)) ops' spans' ≡ appended words used span ops spans
  unfolding appended
  all_copied n front marks ops' spans' f m h k e g =
      let l : used + length words ≤ min most_of_a_kind (min (length ops) (length spans)) = omega (arith, f.count) in
      rw (le-leb (used + length words) (min most_of_a_kind (min (length ops) (length spans))) l, e, g, f.front, f.marks, f.count)

module _ (n : ℕ) (c : Columns) (used span : ℕ) (ops spans : List ℕ) where
  -- the first test fails
  pub too_many : few_enough c.count used ops spans ≡ false → outcome (Err TooMany) ops spans ≡ columns_outcome n c used span ops spans
  unfolding columns_outcome
  too_many e = rw e

  module _ (e : few_enough c.count used ops spans ≡ true) where
    -- the second test fails
    pub bad_move : moves_ok n move_slots (sources_in c) (destinations_in c) ≡ false → outcome (Err BadMove) ops spans ≡ columns_outcome n c used span ops spans
    unfolding columns_outcome
    bad_move f = rw (e, f)

    -- both hold, so that it is a matter of room
    pub good_moves : moves_ok n move_slots (sources_in c) (destinations_in c) ≡ true → {x : Outcome}
        → x ≡ appended (move_words n (sources_in c) (destinations_in c)) used span ops spans → x ≡ columns_outcome n c used span ops spans
    unfolding columns_outcome
    good_moves f q = rw (e, f) q

-- a column that has room in its array stands at its front
column_front : (n : ℕ) (xs : List ℕ) → length xs ≡ n → n ≤ most_moves → take n (sets (replicate most_moves 0) 0 xs) ≡ xs
column_front n xs e h =
    let zeros : List ℕ = replicate most_moves 0 in
    let room : length xs ≤ length zeros = omega (arith, length-replicate {A = ℕ} most_moves 0) in
    rw (sets-front zeros xs room) (take_at xs (drop (length xs) zeros) n e)

-- what comes back of a list's columns is what comes back of the list
pub list_outcome : (n : ℕ) (l : List Move) (used span : ℕ) (ops spans : List ℕ)
    → columns_outcome n (columns_of l) used span ops spans ≡ outcome_of n (sources_of l) (destinations_of l) used span ops spans
unfolding columns_outcome columns_of outcome_of appended
list_outcome n l used span ops spans =
    ⊎_elim
    (λ (h : most_moves < length l). rw (length_destinations l, lt-leb (length l) most_moves h))
    (λ (h : length l ≤ most_moves).
    rw (
      length_destinations l,
      column_front (length l) (sources_of l) (length_sources l) h,
      column_front (length l) (destinations_of l) (length_destinations l) h,
    ))
    (lt? most_moves (length l))
