-- The function table, lent as a table by id: one u64 for each id. Its two lowest bits say what the function is, the rest where it is:
-- 0 not there, 1 bytecode and the pc that it starts at, 2 native code and its builtin number, 3 the same where it returns a double.
use Rattle.std.specs.Prelude.{ℕ, ◌+◌, ◌*◌, ◌/◌, ◌%◌}

abbrev pub not_there : ℕ
not_there = 0

abbrev pub bytecode : ℕ
bytecode = 1

abbrev pub native : ℕ
native = 2

abbrev pub native_double : ℕ
native_double = 3

abbrev pub function_kind : ℕ → ℕ
function_kind f = f % 4

abbrev pub function_number : ℕ → ℕ
function_number f = f / 4

abbrev pub function_at : ℕ → ℕ → ℕ
function_at kind number = kind + 4 * number
