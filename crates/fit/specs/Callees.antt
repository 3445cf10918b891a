-- Refusal 6, UnknownFunc, over the live blocks: callee neither in the table nor the function itself.
use Rattle.std.specs.Prelude.{ℕ, Bool, true, List, ◌==◌, nat_lt, slice_index}
use Rattle.base.specs.Choice.{pick}
use Rattle.program.specs.Functions.{function_kind, not_there}
use Rattle.input.specs.Layout.{function_id}
use Rattle.input.specs.Records.{term_kind, term_x, tail_call, instr_kind, instr_x, call}
use Rattle.rows.specs.Rows.{Row, params, instr, term, rows_of, every}

unfoldable pub known : List ℕ → List ℕ → ℕ → Bool
known ws functions f = pick (f == function_id ws) true (nat_lt not_there (function_kind (slice_index functions f)))

unfoldable pub row_callee : List ℕ → List ℕ → ℕ → Row → Bool
row_callee ws functions r (params b) = true
row_callee ws functions r (instr i) = pick (instr_kind ws i == call) (known ws functions (instr_x ws i)) true
row_callee ws functions r (term b) = pick (term_kind ws b == tail_call) (known ws functions (term_x ws b)) true

abbrev pub callees_ok : List ℕ → List ℕ → Bool
callees_ok ws functions = every (row_callee ws functions) 0 (rows_of ws)
