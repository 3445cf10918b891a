-- What the code needs to know of an instruction, and of the program's lists.
use Rattle.std.specs.Prelude.{◌≡◌, true, ℕ, ◌*◌, ◌≤◌, List, length}
use Rattle.input.specs.Records.{instr_kind, operand_count, call, sys}
use Rattle.input.specs.Forms.{instr_ok}

pub record InstrReady (ws : List ℕ) (i : ℕ) : Type 0 where
  pub form : instr_ok ws i ≡ true
  pub arguments : instr_kind ws i ≡ call → operand_count ws i ≤ 62
  pub builtin : instr_kind ws i ≡ sys → operand_count ws i ≤ 62

-- so many globals and builtins stand in their buffers
pub record Interned (globals : List ℕ) (global_count : ℕ) (builtins : List ℕ) (builtin_count : ℕ) : Type 0 where
  pub globals_there : 2 * global_count ≤ length globals
  pub globals_few : global_count ≤ 65534
  pub builtins_there : builtin_count ≤ length builtins
  pub builtins_few : builtin_count ≤ 65534
