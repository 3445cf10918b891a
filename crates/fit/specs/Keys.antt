-- Refusal 7, BadKey, over the live blocks: a key not Int, or largest minus smallest key above 4,095.
use Rattle.std.specs.Prelude.{ℕ, zero, suc, ◌+◌, ◌-◌, ◌%◌, ◌^◌, min, max, Bool, true, List, [], ◌∷◌, ◌==◌, nat_lt}
use Rattle.base.specs.Choice.{pick}
use Rattle.base.specs.Limits.{most_table_slots}
use Rattle.input.specs.Records.{term_kind, term_x, term_y, switch, instr_kind, instr_x, instr_y, lookup, constant_kind, payload_of, int_const}
use Rattle.input.specs.Forms.{both}
use Rattle.rows.specs.Rows.{Row, params, instr, term, rows_of, every}

-- the n constants from c on that are keys: each one of a Switch, every second of a Lookup
unfoldable pub keys_at : ℕ → ℕ → ℕ → List ℕ
keys_at step c zero = []
keys_at step c (suc n) = c ∷ keys_at step (c + step) n

unfoldable pub all_int : List ℕ → List ℕ → Bool
all_int ws [] = true
all_int ws (c ∷ cs) = both (constant_kind ws c == int_const) (all_int ws cs)

-- a key by its place in the order of signed numbers, from 0 for the least
abbrev pub ranked : List ℕ → ℕ → ℕ
ranked ws c = (payload_of ws c + 2 ^ 63) % 2 ^ 64

unfoldable pub largest : List ℕ → List ℕ → ℕ
largest ws [] = 0
largest ws (c ∷ cs) = max (ranked ws c) (largest ws cs)

unfoldable pub smallest : List ℕ → List ℕ → ℕ
smallest ws [] = 2 ^ 64 - 1
smallest ws (c ∷ cs) = min (ranked ws c) (smallest ws cs)

unfoldable pub keys_ok : List ℕ → List ℕ → Bool
keys_ok ws cs = both (all_int ws cs) (nat_lt (largest ws cs - smallest ws cs) most_table_slots)

unfoldable pub row_keys : List ℕ → ℕ → Row → Bool
row_keys ws r (params b) = true
row_keys ws r (instr i) = pick (instr_kind ws i == lookup) (keys_ok ws (keys_at 2 (instr_x ws i) (instr_y ws i))) true
row_keys ws r (term b) = pick (term_kind ws b == switch) (keys_ok ws (keys_at 1 (term_x ws b) (term_y ws b))) true

abbrev pub keyed_ok : List ℕ → Bool
keyed_ok ws = every (row_keys ws) 0 (rows_of ws)
