-- The theorem on places: two values in use at once never share a place.
use Rattle.std.specs.Prelude.{◌≡◌, true, ℕ, suc, ◌+◌, ◌<◌, ◌≤◌, List, get_or, length}
use Rattle.base.specs.Masks.{has_bit}
use Rattle.place.specs.Registers.{in_pool}
use Rattle.input.specs.Forms.{words_ok}
use Rattle.input.specs.Records.{params_of, start_of, end_of, is_live, destination}
use Rattle.input.specs.Layout.{blocks}
use Rattle.shape.specs.Counts.{counts_ok}
use Rattle.shape.specs.Shape.{shape_ok}
use Rattle.fit.specs.Intervals.{once_ok, intervals_ok}
use Rattle.rows.specs.Rows.{Row, instr, rows_of, defs_of, row_in, InUse}
use Rattle.assign.specs.Steps.{is_call}
use Rattle.assign.specs.Walk.{assigned, place_word, slots_made, slots_ok}

-- a function that passes checks 1 to 5 and gets places
pub record Given (n : ℕ) (ws : List ℕ) : Type 0 where
  pub words : words_ok ws ≡ true
  pub counts : counts_ok n ws ≡ true
  pub shape : shape_ok ws ≡ true
  pub once : once_ok ws ≡ true
  pub intervals : intervals_ok ws ≡ true
  pub places : slots_ok n ws ≡ true

-- the word of a pool register, or of a slot made
pub data Held (n : ℕ) (ws : List ℕ) : ℕ → Type 0 where
  in_register : (r : ℕ) → in_pool n r ≡ true → Held n ws (1 + r)
  in_slot : (k : ℕ) → k < slots_made n ws → slots_made n ws ≤ 128 → Held n ws (257 + k)

-- the row of a number is what stands there in the list of rows
pub record RowIs (ws : List ℕ) (r : ℕ) (x : Row) : Type 0 where
  pub within : r < length (rows_of ws)
  pub is : get_or (rows_of ws) r x ≡ x

-- a value that is in use past row r, defined before it, and in register k
pub record NotedFor (n : ℕ) (ws : List ℕ) (r k : ℕ) : Type 0 where
  pub value : ℕ
  pub in_use : InUse ws value r
  pub before : row_in value (defs_of ws) < r
  pub there : place_word n ws value ≡ 1 + k

pub record NoSharing (n : ℕ) (ws : List ℕ) : Type 0 where
  -- every value in use at a row has a place, a pool register or one of the slots made
  pub placed : (v r : ℕ) → InUse ws v r → Held n ws (place_word n ws v)
  -- two different values in use at one row have different places
  pub apart : (v v' r : ℕ) → InUse ws v r → InUse ws v' r → place_word n ws v ≡ place_word n ws v' → v ≡ v'
  -- each distinct read parameter of a block has a place of its own
  pub parameters : (b i j : ℕ) → b < blocks ws → is_live ws b ≡ true → i < length (params_of ws b) → j < length (params_of ws b)
      → start_of ws (get_or (params_of ws b) i 0) < end_of ws (get_or (params_of ws b) i 0)
      → start_of ws (get_or (params_of ws b) j 0) < end_of ws (get_or (params_of ws b) j 0)
      → place_word n ws (get_or (params_of ws b) i 0) ≡ place_word n ws (get_or (params_of ws b) j 0) → i ≡ j
  -- the registers noted at a call, kept by the value that it defines, are exactly those of the values in use past it: defined before its row,
  -- and in use at it
  pub noted : (i v r : ℕ) → RowIs ws r (instr i) → is_call ws i ≡ true → destination ws i ≡ suc v → (k : ℕ) → k < 64
      → has_bit (get_or (assigned n ws).noted v 0) k ≡ true → NotedFor n ws r k
  pub notes : (i v r : ℕ) → RowIs ws r (instr i) → is_call ws i ≡ true → destination ws i ≡ suc v → (k : ℕ) → k < 64 → NotedFor n ws r k
      → has_bit (get_or (assigned n ws).noted v 0) k ≡ true

abbrev pub SharingTheorem : Type 0
SharingTheorem = (n : ℕ) → 22 ≤ n → n ≤ 64 → (ws : List ℕ) → Given n ws → NoSharing n ws
