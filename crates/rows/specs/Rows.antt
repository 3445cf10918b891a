-- Rows: live blocks in order take one row for parameters, one per instruction, one for the terminator. A value's row is where it is defined.
use Rattle.std.specs.Prelude.{ℕ, zero, suc, ◌+◌, ◌<◌, ◌≤◌, Bool, true, false, List, [], ◌∷◌, ◌++◌, ◌≡◌, eqb}
use Rattle.base.specs.Choice.{pick}
use Rattle.input.specs.Layout.{blocks}
use Rattle.input.specs.Records.{is_live, params_of, first_instr, instr_count, destination, end_of}
use Rattle.input.specs.Forms.{both}

pub data Row : Type 0 where
  params : ℕ → Row
  instr : ℕ → Row
  term : ℕ → Row

unfoldable pub instr_rows : ℕ → ℕ → List Row
instr_rows i zero = []
instr_rows i (suc n) = instr i ∷ instr_rows (i + 1) n

unfoldable pub block_rows : List ℕ → ℕ → List Row
block_rows ws b =
    pick (is_live ws b) (params b ∷ (instr_rows (first_instr ws b) (instr_count ws b) ++ (term b ∷ []))) []

unfoldable pub rows_from : List ℕ → ℕ → ℕ → List Row
rows_from ws b zero = []
rows_from ws b (suc n) = block_rows ws b ++ rows_from ws (b + 1) n

abbrev pub rows_of : List ℕ → List Row
rows_of ws = rows_from ws 0 (blocks ws)

-- a check of every row, by its number and what it is
unfoldable pub every : (ℕ → Row → Bool) → ℕ → List Row → Bool
every ok r [] = true
every ok r (x ∷ xs) = both (ok r x) (every ok (r + 1) xs)

-- what each row gives, in order
unfoldable pub over_rows : {A : Type 0} → (ℕ → Row → List A) → ℕ → List Row → List A
over_rows g r [] = []
over_rows g r (x ∷ xs) = g r x ++ over_rows g (r + 1) xs

-- a value and a row: where it is defined, or where it is used
pub record Ref : Type 0 where
  pub row : ℕ
  pub value : ℕ

abbrev pub ref : ℕ → ℕ → Ref
ref r v = record { row = r; value = v }

unfoldable pub refs : ℕ → List ℕ → List Ref
refs r [] = []
refs r (v ∷ vs) = ref r v ∷ refs r vs

-- the destination of an instruction, as a list of none or one
abbrev pub maybe : ℕ → List ℕ
maybe zero = []
maybe (suc v) = v ∷ []

abbrev pub defined_by : List ℕ → ℕ → List ℕ
defined_by ws i = maybe (destination ws i)

-- what a row defines: a block's parameters, an instruction's destination
unfoldable pub row_defs : List ℕ → ℕ → Row → List Ref
row_defs ws r (params b) = refs r (params_of ws b)
row_defs ws r (instr i) = refs r (defined_by ws i)
row_defs ws r (term b) = []

abbrev pub defs_of : List ℕ → List Ref
defs_of ws = over_rows (row_defs ws) 0 (rows_of ws)

-- is a value defined, and where first
unfoldable pub defined : ℕ → List Ref → Bool
defined v [] = false
defined v (d ∷ ds) = pick (eqb d.value v) true (defined v ds)

unfoldable pub row_in : ℕ → List Ref → ℕ
row_in v [] = 0
row_in v (d ∷ ds) = pick (eqb d.value v) d.row (row_in v ds)

-- A value is in use from its row up to, not including, its end.
pub record InUse (ws : List ℕ) (v r : ℕ) : Type 0 where
  pub is : defined v (defs_of ws) ≡ true
  pub from : row_in v (defs_of ws) ≤ r
  pub until : r < end_of ws v
