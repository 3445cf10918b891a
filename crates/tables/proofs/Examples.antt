-- Two functions' tables. A switch with the keys 7, 5 and 7 again: the later 7 wins, 6 is a hole, and the case that has a move goes to a pad.
-- Constants that are interned, and a lookup with the keys -1 and 1.
use Rattle.std.proofs.Common.{◌≡◌, ℕ, List, [], ◌∷◌, ◌++◌, refl}
use Rattle.input.specs.Layout.{head_field, value_field, block_field, instr_field, edge_field, constant_field, pool_at, list_at}
use Rattle.input.specs.Records.{load_const, sys, lookup, switch, return, undefined_const, true_const, int_const, double_const, str_const}
use Rattle.rows.specs.Rows.{instr_rows, block_rows, rows_from, over_rows}
use Rattle.fit.specs.Keys.{keys_at, largest, smallest}
use Rattle.lower.specs.Instructions.{is_global}
use Rattle.edges.specs.Edges.{edge_sources, edge_destinations, has_moves, pad_count}
use Rattle.interning.specs.Interning.{global_of, intern, intern_all, row_constants, strings_interned, row_loaded, globals_after, builtin_of, intern_builtin, intern_builtins, row_builtins, builtins_after}
use Rattle.tables.specs.Tables.{first_key, slot_count, slot_for, store_cases, switch_slots, switch_heads, switch_targets, switch_heads_after, switch_targets_after, filled, store_entries, lookup_slots, lookup_heads, lookup_values, slots_in, blocks_heads, blocks_values, lookup_heads_after, lookup_values_after}

-- ---- records

-- a live block: parameters, instructions, and its terminator's kind, edges, x and y
abbrev block : (params_at params first instrs kind first_edge edges x y : ℕ) → List ℕ
block params_at params first instrs kind first_edge edges x y =
    0 ∷ 0 ∷ params_at ∷ params ∷ first ∷ instrs ∷ kind ∷ 0 ∷ 0 ∷ 0 ∷ first_edge ∷ edges ∷ x ∷ y ∷ []

-- an instruction without operands
abbrev instruction : (kind x y : ℕ) → List ℕ
instruction kind x y = kind ∷ 0 ∷ 1 ∷ 0 ∷ 0 ∷ x ∷ y ∷ 0 ∷ []

-- ---- a switch

-- two values; five blocks, of which block 2 has value 1 as its parameter; the edges of the cases and of the default, of which the second has
-- value 0 as its argument; the keys
abbrev switching : List ℕ
switching =
    (0 ∷ 0 ∷ 0 ∷ 2 ∷ 5 ∷ 0 ∷ 4 ∷ 3 ∷ 2 ∷ 20 ∷ 90 ∷ 90 ∷ 102 ∷ 111 ∷ [])
    ++ (0 ∷ 9 ∷ 0 ∷ [])
    ++ (1 ∷ 9 ∷ 0 ∷ [])
    ++ block 0 0 0 0 switch 0 4 0 3
    ++ block 0 0 0 0 return 0 0 0 0
    ++ block 0 1 0 0 return 0 0 0 0
    ++ block 0 0 0 0 return 0 0 0 0
    ++ block 0 0 0 0 return 0 0 0 0
    ++ (1 ∷ 0 ∷ 0 ∷ [])
    ++ (2 ∷ 1 ∷ 1 ∷ [])
    ++ (3 ∷ 0 ∷ 0 ∷ [])
    ++ (4 ∷ 0 ∷ 0 ∷ [])
    ++ (int_const ∷ 7 ∷ 0 ∷ [])
    ++ (int_const ∷ 5 ∷ 0 ∷ [])
    ++ (int_const ∷ 7 ∷ 0 ∷ [])
    ++ (1 ∷ 0 ∷ [])

-- value 0 is in register 0, value 1 in register 1
abbrev placed : List ℕ
placed = 1 ∷ 2 ∷ []

-- behind one slot of another table: three slots from key 5 on
pub switch_head_lem : switch_heads_after switching 1 [] ≡ 5 ∷ 1 ∷ 3 ∷ []
unfolding switch_heads_after switch_heads first_key slot_count keys_at largest smallest head_field block_field constant_field
switch_head_lem = refl

-- key 5 goes to the first pad, whose label is 2 · 5; key 6 is a hole and goes to the default's block 4; key 7 goes to block 3, not to block 1
pub switch_targets_lem : switch_targets_after switching placed 1 (8 ∷ []) ≡ 8 ∷ 10 ∷ 4 ∷ 3 ∷ []
unfolding switch_targets_after switch_targets switch_slots store_cases slot_for slot_count keys_at largest smallest has_moves pad_count edge_sources edge_destinations list_at pool_at head_field value_field block_field edge_field constant_field
switch_targets_lem = refl

-- ---- constants and a lookup

-- one block of seven instructions; a Double, two equal strings, and the lookup's keys, values and default
abbrev loading : List ℕ
loading =
    (0 ∷ 0 ∷ 0 ∷ 0 ∷ 1 ∷ 7 ∷ 0 ∷ 8 ∷ 0 ∷ 14 ∷ 28 ∷ 84 ∷ 84 ∷ 108 ∷ [])
    ++ block 0 0 0 7 return 0 0 0 0
    ++ instruction load_const 0 0
    ++ instruction load_const 1 0
    ++ instruction load_const 2 0
    ++ instruction lookup 3 2
    ++ instruction sys 30 0
    ++ instruction sys 20 0
    ++ instruction sys 30 0
    ++ (double_const ∷ 7 ∷ 0 ∷ [])
    ++ (str_const ∷ 7 ∷ 0 ∷ [])
    ++ (str_const ∷ 7 ∷ 0 ∷ [])
    ++ (int_const ∷ 1 ∷ 0 ∷ [])
    ++ (true_const ∷ 0 ∷ 0 ∷ [])
    ++ (int_const ∷ 4294967295 ∷ 4294967295 ∷ [])
    ++ (int_const ∷ 100 ∷ 0 ∷ [])
    ++ (undefined_const ∷ 0 ∷ 0 ∷ [])

-- the string first, once, then the Double with the same payload
pub constants : globals_after loading [] ≡ str_const ∷ 7 ∷ double_const ∷ 7 ∷ []
unfolding globals_after strings_interned intern_all intern global_of row_constants row_loaded over_rows rows_from block_rows instr_rows is_global keys_at head_field block_field instr_field constant_field
constants = refl

-- one that is there keeps its number
pub constants-kept : globals_after loading (double_const ∷ 7 ∷ []) ≡ double_const ∷ 7 ∷ str_const ∷ 7 ∷ []
unfolding globals_after strings_interned intern_all intern global_of row_constants row_loaded over_rows rows_from block_rows instr_rows is_global keys_at head_field block_field instr_field constant_field
constants-kept = refl

pub builtins : builtins_after loading [] ≡ 30 ∷ 20 ∷ []
unfolding builtins_after intern_builtins intern_builtin builtin_of row_builtins over_rows rows_from block_rows instr_rows head_field block_field instr_field
builtins = refl

-- three slots from key -1 on; the default is Undefined
pub lookup_head_lem : lookup_heads_after loading 1 [] ≡ 18446744073709551615 ∷ 1 ∷ 3 ∷ undefined_const ∷ 0 ∷ []
unfolding lookup_heads_after blocks_heads lookup_heads first_key slot_count slots_in keys_at largest smallest head_field block_field instr_field constant_field
lookup_head_lem = refl

-- key -1 has 100, key 0 is a hole, key 1 has True
pub lookup-values : lookup_values_after loading 0 [] ≡ int_const ∷ 100 ∷ undefined_const ∷ 0 ∷ true_const ∷ 0 ∷ []
unfolding lookup_values_after blocks_values lookup_values lookup_slots store_entries slot_for filled slot_count slots_in keys_at largest smallest head_field block_field instr_field constant_field
lookup-values = refl
