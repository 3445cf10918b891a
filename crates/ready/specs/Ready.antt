-- What refusals 1 to 7 leave to be known of a function that none of them hits, for the code that gives places and lowers.
use Rattle.std.specs.Prelude.{◌≡◌, true, ℕ, ◌+◌, ◌*◌, ◌-◌, ◌≤◌, ◌<◌, List, length}
use Rattle.input.specs.Layout.{values, blocks}
use Rattle.input.specs.Records.{is_live, param_count, first_instr, instr_count, term_kind, term_operand_count, first_edge, edge_count, term_x, term_y, jump, branch, branch_cmp, tail_call, switch, instr_kind, operand_count, instr_x, instr_y, call, sys, lookup, edge_target}
use Rattle.rows.specs.Rows.{rows_of}
use Rattle.fit.specs.Keys.{keys_at, largest, smallest}

-- a live block, one of its instructions, one of its edges
pub record Live (ws : List ℕ) (b : ℕ) : Type 0 where
  pub there : b < blocks ws
  pub is : is_live ws b ≡ true

pub record InstrOf (ws : List ℕ) (b i : ℕ) : Type 0 where
  pub block : Live ws b
  pub from : first_instr ws b ≤ i
  pub until : i < first_instr ws b + instr_count ws b

pub record EdgeOf (ws : List ℕ) (b e : ℕ) : Type 0 where
  pub block : Live ws b
  pub from : first_edge ws b ≤ e
  pub until : e < first_edge ws b + edge_count ws b

-- keys of a table, the constants from c on, one every `step`
pub record KeysReady (ws : List ℕ) (step c cases : ℕ) : Type 0 where
  pub some : 1 ≤ cases
  pub few : cases ≤ 1024
  pub within : c + step * cases + 1 < 4294967296
  pub near : largest ws (keys_at step c cases) - smallest ws (keys_at step c cases) < 4096

pub record Ready (ws : List ℕ) : Type 0 where
  -- numbers
  pub few_values : values ws ≤ 4096
  pub few_blocks : blocks ws ≤ 1024
  pub few_rows : length (rows_of ws) ≤ 16384
  pub few_arrive : param_count ws 0 ≤ 62
  pub few_parameters : (b e : ℕ) → EdgeOf ws b e → param_count ws (edge_target ws e) ≤ 190
  pub few_arguments : (b i : ℕ) → InstrOf ws b i → (instr_kind ws i ≡ call) → operand_count ws i ≤ 62
  pub few_sys : (b i : ℕ) → InstrOf ws b i → (instr_kind ws i ≡ sys) → operand_count ws i ≤ 62
  pub few_tail : (b : ℕ) → Live ws b → term_kind ws b ≡ tail_call → term_operand_count ws b ≤ 62
  -- tables
  pub instrs : (b : ℕ) → Live ws b → first_instr ws b + instr_count ws b < 4294967296
  pub edges : (b : ℕ) → Live ws b → first_edge ws b + edge_count ws b < 4294967296
  pub targets : (b e : ℕ) → EdgeOf ws b e → Live ws (edge_target ws e)
  -- edges of a Jump, of the branches, of a Switch
  pub one_edge : (b : ℕ) → Live ws b → term_kind ws b ≡ jump → edge_count ws b ≡ 1
  pub two_edges : (b : ℕ) → Live ws b → branch ≤ term_kind ws b → term_kind ws b ≤ branch_cmp → edge_count ws b ≡ 2
  pub case_edges : (b : ℕ) → Live ws b → term_kind ws b ≡ switch → edge_count ws b ≡ term_y ws b + 1
  -- keys
  pub cases : (b : ℕ) → Live ws b → term_kind ws b ≡ switch → KeysReady ws 1 (term_x ws b) (term_y ws b)
  pub entries : (b i : ℕ) → InstrOf ws b i → instr_kind ws i ≡ lookup → KeysReady ws 2 (instr_x ws i) (instr_y ws i)
