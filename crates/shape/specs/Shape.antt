-- Refusal 3, BadShape, over the live blocks.
use Rattle.std.specs.Prelude.{ℕ, zero, suc, ◌+◌, ◌*◌, ◌-◌, Bool, true, false, List, [], ◌∷◌, leb, ltb, eqb}
use Rattle.base.specs.Choice.{pick}
use Rattle.input.specs.Layout.{function_id, values, blocks, instructions, edges, constants, pooled}
use Rattle.input.specs.Records.{block_id, is_live, params_at, param_count, params_of, first_instr, instr_count, term_kind, term_operands_at, term_operand_count, term_operands, first_edge, edge_count, term_x, term_y, no_term, branch_cmp_imm, branch_cmp, switch, instr_kind, destination, operands_at, operand_count, operands_of, instr_x, instr_y, bin_imm, load_const, cast, lookup, edge_target, arguments_at, argument_count, arguments_of}
use Rattle.input.specs.Forms.{both, each}
use Rattle.rows.specs.Rows.{Row, params, instr, term, rows_of, every}

-- a list of the pool that is there, and every value of it
abbrev pub value_in : List ℕ → ℕ → Bool
value_in ws v = ltb v (values ws)

abbrev pub values_in : List ℕ → List ℕ → Bool
values_in ws [] = true
values_in ws (v ∷ vs) = both (value_in ws v) (values_in ws vs)

abbrev pub list_in : List ℕ → ℕ → ℕ → List ℕ → Bool
list_in ws at count vs = both (leb (at + count) (pooled ws)) (values_in ws vs)

-- Parameters' row: the block's id is its index; its parameters and its instructions are there.
unfoldable pub params_shape : List ℕ → ℕ → Bool
params_shape ws b =
    both (eqb (block_id ws b) b)
    (both (list_in ws (params_at ws b) (param_count ws b) (params_of ws b))
    (leb (first_instr ws b + instr_count ws b) (instructions ws)))

-- An operator that has an immediate form: IAdd to IEq.
abbrev pub immediate : ℕ → Bool
immediate operator = ltb operator 9

-- The casts: types 0 Int, 1 Double, 2 Bool. Int to Double, Double to Int, Int to Bool, Bool to Int.
abbrev pub cast_ok : ℕ → ℕ → Bool
cast_ok to from =
    pick (eqb from 0) (both (ltb 0 to) (ltb to 3)) (both (ltb from 3) (eqb to 0))

-- An instruction's row: its operands, its destination and its constants are there, and the Rust has its operator or cast.
unfoldable pub instr_shape : List ℕ → ℕ → Bool
instr_shape ws i =
    both (list_in ws (operands_at ws i) (operand_count ws i) (operands_of ws i))
    (both (leb (destination ws i) (values ws))
    (both (pick (eqb (instr_kind ws i) bin_imm) (immediate (instr_x ws i)) true)
    (both (pick (eqb (instr_kind ws i) cast) (cast_ok (instr_x ws i) (instr_y ws i)) true)
    (both (pick (eqb (instr_kind ws i) load_const) (ltb (instr_x ws i) (constants ws)) true)
    (pick (eqb (instr_kind ws i) lookup) (leb (instr_x ws i + 2 * instr_y ws i + 1) (constants ws)) true)))))

-- An edge goes to a live block, with as many arguments as that has parameters, all there.
unfoldable pub edge_shape : List ℕ → ℕ → Bool
edge_shape ws e =
    both (ltb (edge_target ws e) (blocks ws))
    (both (is_live ws (edge_target ws e))
    (both (eqb (argument_count ws e) (param_count ws (edge_target ws e)))
    (list_in ws (arguments_at ws e) (argument_count ws e) (arguments_of ws e))))

-- no live block follows, of n from b on
unfoldable pub none_live : List ℕ → ℕ → ℕ → Bool
none_live ws b zero = true
none_live ws b (suc n) = pick (is_live ws b) false (none_live ws (b + 1) n)

-- only the root's last live block may lack a terminator
abbrev pub may_lack : List ℕ → ℕ → Bool
may_lack ws b = both (eqb (function_id ws) 0) (none_live ws (b + 1) (blocks ws - (b + 1)))

-- A terminator's row: there is one, its operands, edges and constants are there, and the Rust has its operator (8 IEq, 16 SEq).
unfoldable pub term_shape : List ℕ → ℕ → Bool
term_shape ws b =
    both (pick (eqb (term_kind ws b) no_term) (may_lack ws b) true)
    (both (list_in ws (term_operands_at ws b) (term_operand_count ws b) (term_operands ws b))
    (both (leb (first_edge ws b + edge_count ws b) (edges ws))
    (both (each (edge_shape ws) (first_edge ws b) (edge_count ws b))
    (both (pick (eqb (term_kind ws b) branch_cmp_imm) (eqb (term_x ws b) 8) true)
    (both (pick (eqb (term_kind ws b) branch_cmp) (eqb (term_x ws b) 16) true)
    (pick (eqb (term_kind ws b) switch) (leb (term_x ws b + term_y ws b) (constants ws)) true))))))

abbrev pub row_shape : List ℕ → ℕ → Row → Bool
row_shape ws r (params b) = params_shape ws b
row_shape ws r (instr i) = instr_shape ws i
row_shape ws r (term b) = term_shape ws b

-- no refusal 3: block 0 is there and live, and every row has its shape
unfoldable pub shape_ok : List ℕ → Bool
shape_ok ws = both (ltb 0 (blocks ws)) (both (is_live ws 0) (every (row_shape ws) 0 (rows_of ws)))
