-- The outer entry: what it answers, and what the lent buffers hold afterwards.
use Rattle.std.specs.Prelude.{ℕ, Result, Ok, Err, ◌+◌, min, List, [], ◌∷◌, Bool, false, length, replicate, leb}
use Rattle.std.proofs.lemmas.List.Edits.{sets}
use Rattle.base.specs.Choice.{pick}
use Rattle.base.specs.Limits.{most_moves, most_of_a_kind}
use Rattle.moves.specs.Moves.{move_words}
use Rattle.moves.specs.AtOnce.{moves_ok}
use Rattle.place.specs.Places.{number_of}
use Rattle.refusal.specs.declared.Refusal.{Refusal}
use Rattle.refusal.specs.declared.Refusal.TheVariants.{TooMany, NoRoom, BadMove}
use Rattle.refusal.specs.Numbers.{number_for}
use Rattle.moves_entry.specs.declared.Move.{Move}

-- document 01's number of each answer
abbrev pub answer_number : Result ℕ Refusal → ℕ
answer_number answer = number_for answer

-- and the new used length
abbrev pub used_for : Result ℕ Refusal → ℕ
used_for (Ok used) = used
used_for (Err why) = 0

-- a list of moves as two columns of place numbers
unfoldable pub sources_of : List Move → List ℕ
sources_of [] = []
sources_of (m ∷ ms) = number_of m.src ∷ sources_of ms

unfoldable pub destinations_of : List Move → List ℕ
destinations_of [] = []
destinations_of (m ∷ ms) = number_of m.dst ∷ destinations_of ms

-- the slots that a move may name
abbrev pub move_slots : ℕ
move_slots = 256

-- what comes back: the number, the new used length, and the ops and spans
pub record Outcome : Type 0 where
  pub number : ℕ
  pub used : ℕ
  pub ops : List ℕ
  pub spans : List ℕ

abbrev pub outcome : Result ℕ Refusal → List ℕ → List ℕ → Outcome
outcome answer ops spans = record { number = answer_number answer; used = used_for answer; ops = ops; spans = spans }

-- a refused call changes nothing
abbrev pub refused : Refusal → List ℕ → List ℕ → Outcome
refused why ops spans = outcome (Err why) ops spans

-- the words stand behind the used length, each with the span, and what lies past them is untouched
abbrev pub written : List ℕ → ℕ → ℕ → List ℕ → List ℕ → Outcome
written words used span ops spans =
    outcome (Ok (used + length words)) (sets ops used words) (sets spans used (replicate (length words) span))

-- no more than 190 moves, and the used length within both buffers and what a program may have
abbrev pub few_enough : ℕ → ℕ → List ℕ → List ℕ → Bool
few_enough count used ops spans =
    pick (leb count most_moves) (pick (leb used (length ops)) (pick (leb used (length spans)) (leb used most_of_a_kind) false) false) false

abbrev pub room_for : List ℕ → ℕ → List ℕ → List ℕ → Bool
room_for words used ops spans = leb (used + length words) (min most_of_a_kind (min (length ops) (length spans)))

-- 2 before all else; a list that is no proper list needs no room, so it is 10 whatever is lent; then 9
unfoldable pub outcome_of : ℕ → List ℕ → List ℕ → ℕ → ℕ → List ℕ → List ℕ → Outcome
outcome_of n ss ds used span ops spans =
    pick (few_enough (length ds) used ops spans)
    (pick (moves_ok n move_slots ss ds)
    (pick (room_for (move_words n ss ds) used ops spans) (written (move_words n ss ds) used span ops spans) (refused NoRoom ops spans))
    (refused BadMove ops spans))
    (refused TooMany ops spans)
