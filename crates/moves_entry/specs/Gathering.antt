-- A list of moves as two columns of place numbers in arrays of 190, and what comes back of such columns.
use Rattle.std.specs.Prelude.{◌≡◌, ℕ, ◌≤◌, List, length, take, set, replicate}
use Rattle.std.proofs.lemmas.List.Edits.{sets}
use Rattle.base.specs.Choice.{pick}
use Rattle.base.specs.Limits.{most_moves}
use Rattle.place.specs.Places.{number_of}
use Rattle.refusal.specs.declared.Refusal.TheVariants.{TooMany, NoRoom, BadMove}
use Rattle.moves.specs.Moves.{move_words}
use Rattle.moves.specs.AtOnce.{moves_ok}
use Rattle.moves_entry.specs.declared.Move.{Move}
use Rattle.moves_entry.specs.declared.Columns.{Columns}
use Rattle.moves_entry.specs.Entry.{sources_of, destinations_of, move_slots, Outcome, refused, written, few_enough, room_for}

-- columns for so many moves, of which they hold none yet
abbrev pub empty_columns : ℕ → Columns
empty_columns count = record { src = replicate most_moves 0; dst = replicate most_moves 0; count = count }

-- the columns with a move at i
abbrev pub with_move : Columns → ℕ → Move → Columns
with_move c i m =
    record { src = set c.src i (number_of m.src); dst = set c.dst i (number_of m.dst); count = c.count }

-- the columns of a whole list: a store past the end is none, so they hold the first 190
unfoldable pub columns_of : List Move → Columns
columns_of l =
    record {
      src = sets (replicate most_moves 0) 0 (sources_of l);
      dst = sets (replicate most_moves 0) 0 (destinations_of l);
      count = length l;
    }

-- the moves that columns hold
abbrev pub sources_in : Columns → List ℕ
sources_in c = take c.count c.src

abbrev pub destinations_in : Columns → List ℕ
destinations_in c = take c.count c.dst

-- no list of moves has more words than this
abbrev pub most_words : ℕ
most_words = 760

-- n words and as many spans stand at the front of two buffers
pub record Fresh (words : List ℕ) (span : ℕ) (ops spans : List ℕ) (n : ℕ) : Type 0 where
  pub few : n ≤ most_words
  pub count : n ≡ length words
  pub front : take n ops ≡ words
  pub marks : take n spans ≡ replicate (length words) span

-- words behind the used length where both buffers have room
unfoldable pub appended : List ℕ → ℕ → ℕ → List ℕ → List ℕ → Outcome
appended words used span ops spans = pick (room_for words used ops spans) (written words used span ops spans) (refused NoRoom ops spans)

-- what comes back of columns
unfoldable pub columns_outcome : ℕ → Columns → ℕ → ℕ → List ℕ → List ℕ → Outcome
columns_outcome n c used span ops spans =
    pick (few_enough c.count used ops spans)
    (pick (moves_ok n move_slots (sources_in c) (destinations_in c))
    (appended (move_words n (sources_in c) (destinations_in c)) used span ops spans)
    (refused BadMove ops spans))
    (refused TooMany ops spans)
