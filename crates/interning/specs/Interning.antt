-- Interning: the globals, held as kind and payload, and the builtins. A constant or builtin that is there already keeps its number, else it
-- gets the next.
use Rattle.std.specs.Prelude.{ℕ, suc, ◌+◌, ◌*◌, Bool, List, [], ◌∷◌, ◌++◌, ltb, eqb, length}
use Rattle.base.specs.Choice.{pick}
use Rattle.input.specs.Records.{instr_kind, instr_x, instr_y, load_const, lookup, sys, term_kind, term_x, term_y, switch, constant_kind, payload_of, str_const}
use Rattle.input.specs.Forms.{both}
use Rattle.rows.specs.Rows.{Row, params, instr, term, rows_of, over_rows}
use Rattle.fit.specs.Keys.{keys_at}
use Rattle.lower.specs.Instructions.{is_global}

-- Constants are equal when kind and 64-bit payload are. The number of a constant among the globals, their count if it is none of them.
unfoldable pub global_of : ℕ → ℕ → List ℕ → ℕ
global_of kind payload [] = 0
global_of kind payload (k ∷ []) = 0
global_of kind payload (k ∷ p ∷ g) = pick (both (eqb k kind) (eqb p payload)) 0 (suc (global_of kind payload g))

unfoldable pub intern : ℕ → ℕ → List ℕ → List ℕ
intern kind payload g = pick (ltb (2 * global_of kind payload g) (length g)) g (g ++ (kind ∷ payload ∷ []))

-- of a list of constants, those that are asked for, in order
unfoldable pub intern_all : (ℕ → ℕ → Bool) → List ℕ → List ℕ → List ℕ → List ℕ
intern_all asked ws [] g = g
intern_all asked ws (c ∷ cs) g =
    intern_all asked ws cs (pick (asked (constant_kind ws c) (payload_of ws c)) (intern (constant_kind ws c) (payload_of ws c) g) g)

-- Strings first, over the live blocks in bc's order: of LoadConst; of a Lookup key, value, key, value .., default; a Switch's keys after its
-- block's instructions.
abbrev pub is_string : ℕ → ℕ → Bool
is_string kind payload = eqb kind str_const

unfoldable pub row_constants : List ℕ → ℕ → Row → List ℕ
row_constants ws r (params b) = []
row_constants ws r (instr i) =
    pick (eqb (instr_kind ws i) load_const) (instr_x ws i ∷ [])
    (pick (eqb (instr_kind ws i) lookup) (keys_at 1 (instr_x ws i) (2 * instr_y ws i + 1)) [])
row_constants ws r (term b) = pick (eqb (term_kind ws b) switch) (keys_at 1 (term_x ws b) (term_y ws b)) []

unfoldable pub strings_interned : List ℕ → List ℕ → List ℕ
strings_interned ws g = intern_all is_string ws (over_rows (row_constants ws) 0 (rows_of ws)) g

-- then what LoadG loads, row by row
unfoldable pub row_loaded : List ℕ → ℕ → Row → List ℕ
row_loaded ws r (params b) = []
row_loaded ws r (instr i) = pick (eqb (instr_kind ws i) load_const) (instr_x ws i ∷ []) []
row_loaded ws r (term b) = []

unfoldable pub globals_after : List ℕ → List ℕ → List ℕ
globals_after ws g = intern_all is_global ws (over_rows (row_loaded ws) 0 (rows_of ws)) (strings_interned ws g)

-- the number of a builtin in its list, the count if it is none of them
unfoldable pub builtin_of : ℕ → List ℕ → ℕ
builtin_of x [] = 0
builtin_of x (y ∷ ys) = pick (eqb y x) 0 (suc (builtin_of x ys))

unfoldable pub intern_builtin : ℕ → List ℕ → List ℕ
intern_builtin x l = pick (ltb (builtin_of x l) (length l)) l (l ++ (x ∷ []))

unfoldable pub intern_builtins : List ℕ → List ℕ → List ℕ
intern_builtins [] l = l
intern_builtins (x ∷ xs) l = intern_builtins xs (intern_builtin x l)

unfoldable pub row_builtins : List ℕ → ℕ → Row → List ℕ
row_builtins ws r (params b) = []
row_builtins ws r (instr i) = pick (eqb (instr_kind ws i) sys) (instr_x ws i ∷ []) []
row_builtins ws r (term b) = []

unfoldable pub builtins_after : List ℕ → List ℕ → List ℕ
builtins_after ws l = intern_builtins (over_rows (row_builtins ws) 0 (rows_of ws)) l
