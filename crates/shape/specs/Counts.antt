-- Refusal 2, TooMany: an input count above the table of document 01's "Numbers", or zero cases or entries. Judged of all blocks, tombstones too.
use Rattle.std.specs.Prelude.{ℕ, zero, suc, ◌+◌, Bool, true, List, leb, eqb}
use Rattle.base.specs.Choice.{pick}
use Rattle.base.specs.Limits.{most_values, most_blocks, most_rows, most_arguments, most_parameters, most_cases}
use Rattle.input.specs.Layout.{values, blocks, instructions}
use Rattle.input.specs.Records.{is_live, param_count, instr_count, term_kind, term_operand_count, term_y, instr_kind, operand_count, instr_y, tail_call, switch, call, sys, lookup}
use Rattle.input.specs.Forms.{both, each}

-- rows of the live blocks, n of them from b on
unfoldable pub row_count : List ℕ → ℕ → ℕ → ℕ
row_count ws b zero = 0
row_count ws b (suc n) = pick (is_live ws b) (instr_count ws b + 2) 0 + row_count ws (b + 1) n

-- cases or entries: 1 to 1,024
abbrev pub cases_ok : ℕ → Bool
cases_ok n = both (leb 1 n) (leb n most_cases)

-- a block: its parameters, the arguments of a Tail, the cases of a Switch
unfoldable pub block_counts : ℕ → List ℕ → ℕ → Bool
block_counts n ws b =
    both (leb (param_count ws b) (pick (eqb b 0) (most_arguments n) most_parameters))
    (both (pick (eqb (term_kind ws b) tail_call) (leb (term_operand_count ws b) (most_arguments n)) true)
    (pick (eqb (term_kind ws b) switch) (cases_ok (term_y ws b)) true))

-- an instruction: the arguments of a Call or Sys, the entries of a Lookup
unfoldable pub instr_counts : ℕ → List ℕ → ℕ → Bool
instr_counts n ws i =
    both (pick (eqb (instr_kind ws i) call) (leb (operand_count ws i) (most_arguments n)) true)
    (both (pick (eqb (instr_kind ws i) sys) (leb (operand_count ws i) (most_arguments n)) true)
    (pick (eqb (instr_kind ws i) lookup) (cases_ok (instr_y ws i)) true))

-- no refusal 2, on a machine with n registers
unfoldable pub counts_ok : ℕ → List ℕ → Bool
counts_ok n ws =
    both (leb (values ws) most_values)
    (both (leb (blocks ws) most_blocks)
    (both (leb (row_count ws 0 (blocks ws)) most_rows)
    (both (each (block_counts n ws) 0 (blocks ws))
    (each (instr_counts n ws) 0 (instructions ws)))))
