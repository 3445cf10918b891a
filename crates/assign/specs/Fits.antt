-- What the checks before the walk leave to be known, and what the walk is over part of the rows.
use Rattle.std.specs.Prelude.{ℕ, ◌+◌, ◌≤◌, ◌<◌, Bool, true, List, ◌≡◌, length}
use Rattle.input.specs.Layout.{values, blocks}
use Rattle.input.specs.Records.{is_live, param_count, first_instr, instr_count, first_edge, edge_count}
use Rattle.rows.specs.Rows.{Row, rows_of, over_rows, row_defs}
use Rattle.assign.specs.Steps.{row_steps}
use Rattle.assign.specs.Walk.{Walk, run, all_placed}

-- refusal 2 bounds the parameters of block 0 and the rows, refusal 3 puts the instructions and edges of a live block into their tables
pub record Fits (ws : List ℕ) : Type 0 where
  pub parameters : param_count ws 0 ≤ 62
  pub rows : length (rows_of ws) ≤ 16384
  pub instrs : (b : ℕ) → b < blocks ws → is_live ws b ≡ true → first_instr ws b + instr_count ws b < 4294967296
  pub edges : (b : ℕ) → b < blocks ws → is_live ws b ≡ true → first_edge ws b + edge_count ws b < 4294967296

-- for each value: a place, a hint, and the registers noted at the call that defines it
pub record Lent (ws map wish noted : List ℕ) : Type 0 where
  pub places : length map ≡ values ws
  pub wishes : length wish ≡ values ws
  pub masks : length noted ≡ values ws

-- a run over the rows xs, the first of them row r
abbrev pub run_rows : List ℕ → List ℕ → ℕ → List Row → Walk → Walk
run_rows ws pool r xs w = run ws pool (over_rows (row_steps ws) r xs) w

-- every value that the rows xs define has a place
abbrev pub rows_placed : List ℕ → List ℕ → List Row → Bool
rows_placed map ws xs = all_placed map (over_rows (row_defs ws) 0 xs)
