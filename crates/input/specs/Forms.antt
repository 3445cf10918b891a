-- Refusal 1, BadWord: a word that no record allows, or the input is cut short. It is judged of every record of every table.
use Rattle.std.specs.Prelude.{ℕ, zero, suc, ◌+◌, ◌*◌, Bool, true, false, List, [], ◌∷◌, leb, ltb, eqb, length, get_or}
use Rattle.base.specs.Choice.{pick}
use Rattle.input.specs.Layout.{head_words, value_words, block_words, instr_words, edge_words, constant_words, values, blocks, instructions, edges, constants, pooled, unused_mark, blocks_from, instrs_from, edges_from, constants_from, pool_from, constant_field}
use Rattle.input.specs.Records.{hint_of, tombstone, term_kind, term_span, term_operand_count, edge_count, term_x, term_y, instr_kind, instr_span, destination, operand_count, instr_x, instr_y, instr_z, constant_kind, switch, noop, true_const}

abbrev pub both : Bool → Bool → Bool
both a b = pick a b false

-- any number of 32 bits
abbrev pub any : ℕ
any = 4294967295

-- The head: the mark is 0 or 1, each table starts where the one before ends, and the words end with the pool.
unfoldable pub head_ok : List ℕ → Bool
head_ok ws =
    both (leb (unused_mark ws) 1)
    (both (eqb (blocks_from ws) (head_words + value_words * values ws))
    (both (eqb (instrs_from ws) (blocks_from ws + block_words * blocks ws))
    (both (eqb (edges_from ws) (instrs_from ws + instr_words * instructions ws))
    (both (eqb (constants_from ws) (edges_from ws + edge_words * edges ws))
    (both (eqb (pool_from ws) (constants_from ws + constant_words * constants ws))
    (eqb (length ws) (pool_from ws + pooled ws)))))))

-- A first hint of 64 or more is BadWord.
unfoldable pub value_ok : List ℕ → ℕ → Bool
value_ok ws v = leb (hint_of ws v) 64

-- The forms of instructions, a row for each kind: whether it has a destination, how many operands (any: a list of arguments), and the most of
-- x, y and z.
unfoldable pub instr_forms : List ℕ
instr_forms =
    -- Bin: operator
    1 ∷ 2 ∷ 16 ∷ 0 ∷ 0 ∷
    -- BinImm: operator, immediate
    1 ∷ 1 ∷ 16 ∷ any ∷ 0 ∷
    -- LoadConst: constant
    1 ∷ 0 ∷ any ∷ 0 ∷ 0 ∷
    -- Call: function
    1 ∷ any ∷ any ∷ 0 ∷ 0 ∷
    -- Sys: builtin
    1 ∷ any ∷ any ∷ 0 ∷ 0 ∷
    -- Cast: type to, type from
    1 ∷ 1 ∷ 3 ∷ 3 ∷ 0 ∷
    -- Alloc: kind, size, align
    1 ∷ 0 ∷ 255 ∷ any ∷ 255 ∷
    -- Store: -, offset
    0 ∷ 2 ∷ 0 ∷ any ∷ 0 ∷
    -- Assert
    1 ∷ 1 ∷ 0 ∷ 0 ∷ 0 ∷
    -- Load: -, offset
    1 ∷ 1 ∷ 0 ∷ any ∷ 0 ∷
    -- AddrOf: -, offset
    1 ∷ 1 ∷ 0 ∷ any ∷ 0 ∷
    -- Lookup: first constant, entries
    1 ∷ 1 ∷ any ∷ any ∷ 0 ∷
    -- Noop
    0 ∷ 0 ∷ 0 ∷ 0 ∷ 0 ∷ []

abbrev pub instr_form : ℕ → ℕ → ℕ
instr_form kind k = get_or instr_forms (5 * kind + k) 0

-- as many as the form says, or any number
abbrev pub fits_count : ℕ → ℕ → Bool
fits_count form n = pick (eqb form any) true (eqb n form)

unfoldable pub instr_ok : List ℕ → ℕ → Bool
instr_ok ws i =
    both (ltb (instr_kind ws i) 13)
    (both (eqb (instr_form (instr_kind ws i) 0) (pick (eqb (destination ws i) 0) 0 1))
    (both (fits_count (instr_form (instr_kind ws i) 1) (operand_count ws i))
    (both (leb (instr_x ws i) (instr_form (instr_kind ws i) 2))
    (both (leb (instr_y ws i) (instr_form (instr_kind ws i) 3))
    (both (leb (instr_z ws i) (instr_form (instr_kind ws i) 4))
    (pick (eqb (instr_kind ws i) noop) (eqb (instr_span ws i) 0) true))))))

-- The forms of terminators, a row for each kind: the fewest and the most operands, how many edges (any: one for each case, then the default),
-- the most of x and y, and the most that the span may be.
unfoldable pub term_forms : List ℕ
term_forms =
    -- none
    0 ∷ 0 ∷ 0 ∷ 0 ∷ 0 ∷ 0 ∷
    -- Return
    0 ∷ 1 ∷ 0 ∷ 0 ∷ 0 ∷ any ∷
    -- Jump
    0 ∷ 0 ∷ 1 ∷ 0 ∷ 0 ∷ any ∷
    -- Branch: edges no, yes
    1 ∷ 1 ∷ 2 ∷ 0 ∷ 0 ∷ any ∷
    -- BranchCmpImm: operator, immediate
    1 ∷ 1 ∷ 2 ∷ 16 ∷ any ∷ any ∷
    -- BranchCmp: operator
    2 ∷ 2 ∷ 2 ∷ 16 ∷ 0 ∷ any ∷
    -- Tail: function
    0 ∷ any ∷ 0 ∷ any ∷ 0 ∷ any ∷
    -- Switch: first constant, cases
    1 ∷ 1 ∷ any ∷ any ∷ any ∷ any ∷ []

abbrev pub term_form : ℕ → ℕ → ℕ
term_form kind k = get_or term_forms (6 * kind + k) 0

-- so many edges: of a Switch one for each case and one for the default
abbrev pub edges_ok : List ℕ → ℕ → Bool
edges_ok ws b =
    pick (eqb (term_kind ws b) switch) (eqb (edge_count ws b) (term_y ws b + 1)) (eqb (edge_count ws b) (term_form (term_kind ws b) 2))

unfoldable pub term_ok : List ℕ → ℕ → Bool
term_ok ws b =
    both (ltb (term_kind ws b) 8)
    (both (leb (term_form (term_kind ws b) 0) (term_operand_count ws b))
    (both (leb (term_operand_count ws b) (term_form (term_kind ws b) 1))
    (both (edges_ok ws b)
    (both (leb (term_x ws b) (term_form (term_kind ws b) 3))
    (both (leb (term_y ws b) (term_form (term_kind ws b) 4))
    (leb (term_span ws b) (term_form (term_kind ws b) 5)))))))

-- a tombstone mark is 0 or 1
unfoldable pub block_ok : List ℕ → ℕ → Bool
block_ok ws b = both (leb (tombstone ws b) 1) (term_ok ws b)

-- Undefined, False and True have no payload
unfoldable pub constant_ok : List ℕ → ℕ → Bool
constant_ok ws c =
    both (ltb (constant_kind ws c) 6)
    (pick (leb (constant_kind ws c) true_const) (both (eqb (constant_field ws c 1) 0) (eqb (constant_field ws c 2) 0)) true)

-- every record from k on, n of them
unfoldable pub each : (ℕ → Bool) → ℕ → ℕ → Bool
each ok k zero = true
each ok k (suc n) = both (ok k) (each ok (k + 1) n)

-- no refusal 1
unfoldable pub words_ok : List ℕ → Bool
words_ok ws =
    both (head_ok ws)
    (both (each (value_ok ws) 0 (values ws))
    (both (each (block_ok ws) 0 (blocks ws))
    (both (each (instr_ok ws) 0 (instructions ws))
    (each (constant_ok ws) 0 (constants ws)))))
