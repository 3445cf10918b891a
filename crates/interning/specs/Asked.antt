-- The two passes over constants: which of them each asks for, and of which each row has some.
use Rattle.std.specs.Prelude.{ℕ, Bool, List}
use Rattle.rows.specs.Rows.{Row}
use Rattle.lower.specs.Instructions.{is_global}
use Rattle.interning.specs.declared.Asked.{Asked}
use Rattle.interning.specs.declared.Asked.TheVariants.{Strings, Loaded}
use Rattle.interning.specs.Interning.{is_string, row_constants, row_loaded}

abbrev pub asked_by : Asked → ℕ → ℕ → Bool
asked_by Strings = is_string
asked_by Loaded = is_global

abbrev pub rows_by : Asked → List ℕ → ℕ → Row → List ℕ
rows_by Strings = row_constants
rows_by Loaded = row_loaded
