-- The entries for other languages: numbers and lent buffers alone. Used lengths are words of a buffer of their own; a word that it is too short
-- for is 0 and is not written.
use Rattle.std.specs.Prelude.{ℕ, List, [], ◌∷◌, length, get_or, replicate}
use Rattle.std.proofs.lemmas.List.Edits.{sets}
use Rattle.base.specs.Limits.{most_moves}
use Rattle.strings.specs.Strings as strings
use Rattle.answers.specs.Answers.{used_in, used_words, used_after}
use Rattle.first_checks.specs.Buffers.{Buffers}
use Rattle.compile.specs.Compile.{compiled}
use Rattle.compact.specs.Entry as compact
use Rattle.moves_entry.specs.declared.Columns.{Columns}
use Rattle.moves_entry.specs.Entry as entry
use Rattle.moves_entry.specs.Gathering.{columns_outcome}

-- what compiling leaves: the number, the used lengths as words, every buffer
pub record Compiled : Type 0 where
  pub number : ℕ
  pub used : List ℕ
  pub buffers : Buffers

abbrev pub leaves : ℕ → List ℕ → Buffers → Compiled
leaves number used buffers = record { number = number; used = used; buffers = buffers }

unfoldable pub compiled_for : ℕ → List ℕ → Buffers → List ℕ → Compiled
compiled_for n ws b used =
    leaves (compiled n ws b (used_in used)).number (sets used 0 (used_words (compiled n ws b (used_in used)).used)) (compiled n ws b (used_in used)).buffers

-- the string entry: how many globals are used, then the index of the function that is refused
pub record Interned : Type 0 where
  pub number : ℕ
  pub answer : List ℕ
  pub globals : List ℕ

abbrev pub interns : ℕ → List ℕ → List ℕ → Interned
interns number answer globals = record { number = number; answer = answer; globals = globals }

unfoldable pub interned_for : ℕ → List ℕ → List ℕ → List ℕ → List ℕ → Interned
interned_for n words ends globals answer =
    interns (strings.interned n words ends globals (get_or answer 0 0)).number
    (sets answer 0 ((strings.interned n words ends globals (get_or answer 0 0)).used ∷ (strings.interned n words ends globals (get_or answer 0 0)).index ∷ []))
    (strings.interned n words ends globals (get_or answer 0 0)).globals

-- compaction: how many ops are used, and how many slots of switch tables; a refused call leaves the used lengths
pub record Compacted : Type 0 where
  pub number : ℕ
  pub used : List ℕ
  pub ops : List ℕ
  pub spans : List ℕ
  pub targets : List ℕ
  pub functions : List ℕ
  pub work : List ℕ

abbrev pub compacts : ℕ → List ℕ → List ℕ → List ℕ → List ℕ → List ℕ → List ℕ → Compacted
compacts number used ops spans targets functions work =
    record { number = number; used = used; ops = ops; spans = spans; targets = targets; functions = functions; work = work }

abbrev pub by_compaction : List ℕ → compact.Outcome → Compacted
by_compaction used o =
    compacts o.number (used_after used o.number o.used) o.ops o.spans o.targets o.functions o.work

unfoldable pub compacted_for : List ℕ → List ℕ → List ℕ → List ℕ → List ℕ → List ℕ → Compacted
compacted_for used ops spans targets functions work =
    by_compaction used (compact.outcome_of (get_or used 0 0) (get_or used 1 0) ops spans targets functions work)

-- a list of moves: sources and destinations, of which the first 190 are held; a destination that is missing is register 0
pub record Moved : Type 0 where
  pub number : ℕ
  pub used : List ℕ
  pub ops : List ℕ
  pub spans : List ℕ

abbrev pub moves : ℕ → List ℕ → List ℕ → List ℕ → Moved
moves number used ops spans = record { number = number; used = used; ops = ops; spans = spans }

abbrev pub columns_for : List ℕ → List ℕ → Columns
columns_for sources destinations =
    record {
      src = sets (replicate most_moves 0) 0 sources;
      dst = sets (replicate most_moves 0) 0 destinations;
      count = length sources;
    }

abbrev pub by_moves : List ℕ → entry.Outcome → Moved
by_moves used o = moves o.number (used_after used o.number o.used) o.ops o.spans

unfoldable pub moved_for : ℕ → List ℕ → List ℕ → ℕ → List ℕ → List ℕ → List ℕ → Moved
moved_for n sources destinations span used ops spans =
    by_moves used (columns_outcome n (columns_for sources destinations) (get_or used 0 0) span ops spans)
