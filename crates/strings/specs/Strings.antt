-- The string entry: the strings of a list of functions among the globals, before the first of them is compiled.
use Rattle.std.specs.Prelude.{ℕ, ◌+◌, ◌*◌, ◌-◌, ◌/◌, Bool, List, [], ◌∷◌, Option, Some, None, Result, Ok, Err, leb, eqb, length, take, drop}
use Rattle.std.proofs.lemmas.List.Edits.{sets}
use Rattle.base.specs.Choice.{pick}
use Rattle.refusal.specs.Numbers.{number_of}
use Rattle.input.specs.Layout.{unused_mark}
use Rattle.input.specs.Forms.{words_ok}
use Rattle.shape.specs.Counts.{counts_ok}
use Rattle.shape.specs.Shape.{shape_ok}
use Rattle.interning.specs.Interning.{strings_interned}
use Rattle.lists.specs.Lists.{room}
use Rattle.used.specs.Used.{within}
use Rattle.strings.specs.declared.Unfit as declared

-- document 01's number of each answer; the index of the function that is refused; how many globals are used afterwards, of `used` before
abbrev pub number_for : Result ℕ declared.Unfit → ℕ
number_for (Ok count) = 0
number_for (Err f) = number_of f.why

abbrev pub index_for : Result ℕ declared.Unfit → ℕ
index_for (Ok count) = 0
index_for (Err f) = f.index

abbrev pub used_for : ℕ → Result ℕ declared.Unfit → ℕ
used_for used (Ok count) = count
used_for used (Err f) = used

-- The functions stand one behind the other, from `from` on; each is given by where it ends.
unfoldable pub functions_in : List ℕ → ℕ → List ℕ → List (List ℕ)
functions_in words from [] = []
functions_in words from (end ∷ ends) = take (end - from) (drop from words) ∷ functions_in words end ends

-- a function that is not marked unused
abbrev pub is_used : List ℕ → Bool
is_used ws = eqb (unused_mark ws) 0

-- 1, 2 or 3, the lowest that applies to a used function, 0 for none; an unused one is not judged
unfoldable pub unfit_string : ℕ → List ℕ → ℕ
unfit_string n ws = pick (is_used ws) (pick (words_ok ws) (pick (counts_ok n ws) (pick (shape_ok ws) 0 3) 2) 1) 0

-- the first function that is unfit: its number, 0 for none, and its index, counted from k on
pub record Unfit : Type 0 where
  pub number : ℕ
  pub index : ℕ

-- the one that the code finds
abbrev pub found : Option declared.Unfit → Unfit
found None = record { number = 0; index = 0 }
found (Some f) = record { number = number_of f.why; index = f.index }

unfoldable pub first_unfit : ℕ → ℕ → List (List ℕ) → Unfit
first_unfit n k [] = record { number = 0; index = 0 }
first_unfit n k (f ∷ fs) = pick (eqb (unfit_string n f) 0) (first_unfit n (k + 1) fs) (record { number = unfit_string n f; index = k })

-- the strings of the used functions in order, each behind those before it
unfoldable pub all_strings : List (List ℕ) → List ℕ → List ℕ
all_strings [] g = g
all_strings (f ∷ fs) g = all_strings fs (pick (is_used f) (strings_interned f g) g)

-- the globals with them
abbrev pub strings_after : List ℕ → List ℕ → List ℕ → ℕ → List ℕ
strings_after words ends globals used = all_strings (functions_in words 0 ends) (take (2 * used) globals)

-- 2: the used length passes the buffer, or 65,534; 9: they need more than is lent, or pass 65,534
abbrev pub used_ok : List ℕ → ℕ → Bool
used_ok globals used = within 2 used (length globals)

abbrev pub room_ok : List ℕ → List ℕ → List ℕ → ℕ → Bool
room_ok words ends globals used = leb (length (strings_after words ends globals used)) (room 2 globals)

-- what comes back: number, index, used length, and the globals
pub record Outcome : Type 0 where
  pub number : ℕ
  pub index : ℕ
  pub used : ℕ
  pub globals : List ℕ

abbrev pub outcome : Result ℕ declared.Unfit → ℕ → List ℕ → Outcome
outcome r used globals = record { number = number_for r; index = index_for r; used = used_for used r; globals = globals }

-- a refused call interns nothing
abbrev pub refused : ℕ → ℕ → ℕ → List ℕ → Outcome
refused number index used globals = record { number = number; index = index; used = used; globals = globals }

-- The first unfit function's number, but that a used length that passes its buffer is 2 where that is lower; then 9.
unfoldable pub interned : ℕ → List ℕ → List ℕ → List ℕ → ℕ → Outcome
interned n words ends globals used =
    pick (eqb (first_unfit n 0 (functions_in words 0 ends)).number 1)
    (refused 1 (first_unfit n 0 (functions_in words 0 ends)).index used globals)
    (pick (used_ok globals used)
    (pick (eqb (first_unfit n 0 (functions_in words 0 ends)).number 0)
    (pick (room_ok words ends globals used)
    (record {
      number = 0;
      index = 0;
      used = length (strings_after words ends globals used) / 2;
      globals = sets globals 0 (strings_after words ends globals used);
    })
    (refused 9 0 used globals))
    (refused (first_unfit n 0 (functions_in words 0 ends)).number (first_unfit n 0 (functions_in words 0 ends)).index used globals))
    (refused 2 0 used globals))
