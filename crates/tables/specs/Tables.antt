-- Switch and lookup tables. Slot = key minus smallest key; a later equal key wins; a slot without a case has the default's.
-- A switch table is three numbers (first key, where its slots start, how many) and a pc for each slot, here still a label. A lookup table is
-- five (the same, and the default's kind and payload) and a kind and payload for each slot.
use Rattle.std.specs.Prelude.{ℕ, zero, suc, ◌+◌, ◌-◌, ◌*◌, ◌%◌, ◌^◌, Bool, false, List, [], ◌∷◌, ◌++◌, replicate, ◌==◌, slice_set}
use Rattle.base.specs.Choice.{pick}
use Rattle.input.specs.Layout.{blocks}
use Rattle.input.specs.Records.{is_live, first_instr, instr_count, term_kind, term_x, term_y, first_edge, switch, instr_kind, instr_x, instr_y, lookup, edge_target, constant_kind, payload_of}
use Rattle.fit.specs.Keys.{keys_at, ranked, largest, smallest}
use Rattle.edges.specs.Edges.{has_moves, pad_count}

-- the first key as a word of 64 bits, and how many slots there are, of keys by their constants
unfoldable pub first_key : List ℕ → List ℕ → ℕ
first_key ws cs = (smallest ws cs + 2 ^ 63) % 2 ^ 64

unfoldable pub slot_count : List ℕ → List ℕ → ℕ
slot_count ws cs = largest ws cs - smallest ws cs + 1

unfoldable pub slot_for : List ℕ → List ℕ → ℕ → ℕ
slot_for ws cs c = ranked ws c - smallest ws cs

-- Switch: the keys of block b
abbrev pub case_keys : List ℕ → ℕ → List ℕ
case_keys ws b = keys_at 1 (term_x ws b) (term_y ws b)

abbrev pub switch_head : List ℕ → ℕ → ℕ → List ℕ
switch_head ws b start = first_key ws (case_keys ws b) ∷ start ∷ slot_count ws (case_keys ws b) ∷ []

-- k cases, the keys from c on and the edges from e on: a case with moves goes to a pad, with labels from `label` on, else to its block
unfoldable pub store_cases : List ℕ → List ℕ → List ℕ → ℕ → ℕ → ℕ → ℕ → ℕ → List ℕ → List ℕ
store_cases ws map keys start label c e zero l = l
store_cases ws map keys start label c e (suc k) l =
    pick (has_moves ws map e)
    (store_cases ws map keys start (label + 1) (c + 1) (e + 1) k (slice_set l (start + slot_for ws keys c) label))
    (store_cases ws map keys start label (c + 1) (e + 1) k (slice_set l (start + slot_for ws keys c) (edge_target ws e)))

-- the slots of block b's table behind the list, first all with the default block, straight past the default edge's moves
unfoldable pub switch_slots : List ℕ → List ℕ → ℕ → ℕ → ℕ → List ℕ → List ℕ
switch_slots ws map start label b l =
    store_cases ws map (case_keys ws b) start label (term_x ws b) (first_edge ws b) (term_y ws b)
    (l ++ replicate (slot_count ws (case_keys ws b)) (edge_target ws (first_edge ws b + term_y ws b)))

abbrev pub has_switch : List ℕ → ℕ → Bool
has_switch ws b = pick (is_live ws b) (term_kind ws b == switch) false

-- the tables of k blocks from b on: their heads, and their slots
unfoldable pub switch_heads : List ℕ → ℕ → ℕ → ℕ → List ℕ → List ℕ
switch_heads ws start b zero l = l
switch_heads ws start b (suc k) l =
    pick (has_switch ws b)
    (switch_heads ws (start + slot_count ws (case_keys ws b)) (b + 1) k (l ++ switch_head ws b start))
    (switch_heads ws start (b + 1) k l)

unfoldable pub switch_targets : List ℕ → List ℕ → ℕ → ℕ → ℕ → ℕ → List ℕ → List ℕ
switch_targets ws map start label b zero l = l
switch_targets ws map start label b (suc k) l =
    pick (has_switch ws b)
    (switch_targets ws map (start + slot_count ws (case_keys ws b)) (label + pad_count ws map (first_edge ws b) (term_y ws b)) (b + 1) k
    (switch_slots ws map start label b l))
    (switch_targets ws map start label (b + 1) k l)

-- Lookup: the keys of instruction i; its constants are key, value, key, value .., default
abbrev pub entry_keys : List ℕ → ℕ → List ℕ
entry_keys ws i = keys_at 2 (instr_x ws i) (instr_y ws i)

abbrev pub default_of : List ℕ → ℕ → ℕ
default_of ws i = instr_x ws i + 2 * instr_y ws i

abbrev pub lookup_head : List ℕ → ℕ → ℕ → List ℕ
lookup_head ws i start =
    first_key ws (entry_keys ws i) ∷ start ∷ slot_count ws (entry_keys ws i) ∷ constant_kind ws (default_of ws i) ∷ payload_of ws (default_of ws i) ∷ []

-- so many slots with one constant
unfoldable pub filled : ℕ → ℕ → ℕ → List ℕ
filled kind payload zero = []
filled kind payload (suc k) = kind ∷ payload ∷ filled kind payload k

-- k entries, the constants from c on
unfoldable pub store_entries : List ℕ → List ℕ → ℕ → ℕ → ℕ → List ℕ → List ℕ
store_entries ws keys start c zero l = l
store_entries ws keys start c (suc k) l =
    store_entries ws keys start (c + 2) k
    (slice_set (slice_set l (2 * (start + slot_for ws keys c)) (constant_kind ws (c + 1))) (2 * (start + slot_for ws keys c) + 1) (payload_of ws (c + 1)))

unfoldable pub lookup_slots : List ℕ → ℕ → ℕ → List ℕ → List ℕ
lookup_slots ws start i l =
    store_entries ws (entry_keys ws i) start (instr_x ws i) (instr_y ws i)
    (l ++ filled (constant_kind ws (default_of ws i)) (payload_of ws (default_of ws i)) (slot_count ws (entry_keys ws i)))

-- the tables of k instructions from i on: heads, slots, and where the next table's slots start
unfoldable pub lookup_heads : List ℕ → ℕ → ℕ → ℕ → List ℕ → List ℕ
lookup_heads ws start i zero l = l
lookup_heads ws start i (suc k) l =
    pick (instr_kind ws i == lookup)
    (lookup_heads ws (start + slot_count ws (entry_keys ws i)) (i + 1) k (l ++ lookup_head ws i start))
    (lookup_heads ws start (i + 1) k l)

unfoldable pub lookup_values : List ℕ → ℕ → ℕ → ℕ → List ℕ → List ℕ
lookup_values ws start i zero l = l
lookup_values ws start i (suc k) l =
    pick (instr_kind ws i == lookup)
    (lookup_values ws (start + slot_count ws (entry_keys ws i)) (i + 1) k (lookup_slots ws start i l))
    (lookup_values ws start (i + 1) k l)

unfoldable pub slots_in : List ℕ → ℕ → ℕ → ℕ
slots_in ws i zero = 0
slots_in ws i (suc k) = pick (instr_kind ws i == lookup) (slot_count ws (entry_keys ws i)) 0 + slots_in ws (i + 1) k

-- of the live ones of k blocks from b on
unfoldable pub blocks_heads : List ℕ → ℕ → ℕ → ℕ → List ℕ → List ℕ
blocks_heads ws start b zero l = l
blocks_heads ws start b (suc k) l =
    pick (is_live ws b)
    (blocks_heads ws (start + slots_in ws (first_instr ws b) (instr_count ws b)) (b + 1) k (lookup_heads ws start (first_instr ws b) (instr_count ws b) l))
    (blocks_heads ws start (b + 1) k l)

unfoldable pub blocks_values : List ℕ → ℕ → ℕ → ℕ → List ℕ → List ℕ
blocks_values ws start b zero l = l
blocks_values ws start b (suc k) l =
    pick (is_live ws b)
    (blocks_values ws (start + slots_in ws (first_instr ws b) (instr_count ws b)) (b + 1) k (lookup_values ws start (first_instr ws b) (instr_count ws b) l))
    (blocks_values ws start (b + 1) k l)

-- the lists of a function's tables behind the program's, of which `used` slots are used
unfoldable pub switch_heads_after : List ℕ → ℕ → List ℕ → List ℕ
switch_heads_after ws used l = switch_heads ws used 0 (blocks ws) l

unfoldable pub switch_targets_after : List ℕ → List ℕ → ℕ → List ℕ → List ℕ
switch_targets_after ws map used l = switch_targets ws map used (2 * blocks ws) 0 (blocks ws) l

unfoldable pub lookup_heads_after : List ℕ → ℕ → List ℕ → List ℕ
lookup_heads_after ws used l = blocks_heads ws used 0 (blocks ws) l

unfoldable pub lookup_values_after : List ℕ → ℕ → List ℕ → List ℕ
lookup_values_after ws used l = blocks_values ws used 0 (blocks ws) l
