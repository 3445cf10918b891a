-- A table of rows, by value: the row where the value is defined and 1, else 0; and how it is filled, which is the check of refusal 4.
use Rattle.std.specs.Prelude.{◌≡◌, ℕ, ◌+◌, ◌<◌, Bool, true, false, List, [], ◌∷◌, ◌==◌, slice_index, slice_set}
use Rattle.base.specs.Choice.{pick}
use Rattle.rows.specs.Rows.{Ref, defined, row_in}

abbrev pub Tabled : List ℕ → List Ref → Type 0
Tabled rows ds = (v : ℕ) → slice_index rows v ≡ pick (defined v ds) (row_in v ds + 1) 0

-- n words have room for every value defined
abbrev pub Roomy : ℕ → List Ref → Type 0
Roomy n ds = (v : ℕ) → defined v ds ≡ true → v < n

-- the table, and whether every value so far had no row yet
pub record Marks : Type 0 where
  pub table : List ℕ
  pub fresh : Bool

abbrev pub marks : List ℕ → Bool → Marks
marks t f = record { table = t; fresh = f }

-- One definition: its row and 1 goes into the table where there is none. At the first value that has a row already filling stops: the table
-- keeps what it holds then.
unfoldable pub mark : Ref → Marks → Marks
mark d m =
    pick m.fresh
    (pick (slice_index m.table d.value == 0)
    (marks (slice_set m.table d.value (d.row + 1)) true)
    (marks m.table false))
    m

unfoldable pub marked : List Ref → Marks → Marks
marked [] m = m
marked (d ∷ ds) m = marked ds (mark d m)
