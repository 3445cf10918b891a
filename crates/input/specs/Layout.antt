-- The words of one function, as docs/INPUT.md lays them out: a head of 14 words, then six tables of records of fixed width. A list is a place
-- and a count into the pool, the instructions, the edges or the constants.
use Rattle.std.specs.Prelude.{ℕ, zero, suc, ◌+◌, ◌*◌, List, [], ◌∷◌, get_or}

abbrev pub head_words : ℕ
head_words = 14

unfoldable pub head_field : List ℕ → ℕ → ℕ
head_field ws k = get_or ws k 0

-- the head: the function's id, span and "unused" mark
abbrev pub function_id : List ℕ → ℕ
function_id ws = head_field ws 0

abbrev pub function_span : List ℕ → ℕ
function_span ws = head_field ws 1

abbrev pub unused_mark : List ℕ → ℕ
unused_mark ws = head_field ws 2

-- how many records each table has
abbrev pub values : List ℕ → ℕ
values ws = head_field ws 3

abbrev pub blocks : List ℕ → ℕ
blocks ws = head_field ws 4

abbrev pub instructions : List ℕ → ℕ
instructions ws = head_field ws 5

abbrev pub edges : List ℕ → ℕ
edges ws = head_field ws 6

abbrev pub constants : List ℕ → ℕ
constants ws = head_field ws 7

abbrev pub pooled : List ℕ → ℕ
pooled ws = head_field ws 8

-- and where each table starts; the values start behind the head
abbrev pub blocks_from : List ℕ → ℕ
blocks_from ws = head_field ws 9

abbrev pub instrs_from : List ℕ → ℕ
instrs_from ws = head_field ws 10

abbrev pub edges_from : List ℕ → ℕ
edges_from ws = head_field ws 11

abbrev pub constants_from : List ℕ → ℕ
constants_from ws = head_field ws 12

abbrev pub pool_from : List ℕ → ℕ
pool_from ws = head_field ws 13

-- how wide a record of each table is
abbrev pub value_words : ℕ
value_words = 3

abbrev pub block_words : ℕ
block_words = 14

abbrev pub instr_words : ℕ
instr_words = 8

abbrev pub edge_words : ℕ
edge_words = 3

abbrev pub constant_words : ℕ
constant_words = 3

-- field k of a record
unfoldable pub value_field : List ℕ → ℕ → ℕ → ℕ
value_field ws v k = get_or ws (head_words + value_words * v + k) 0

unfoldable pub block_field : List ℕ → ℕ → ℕ → ℕ
block_field ws b k = get_or ws (blocks_from ws + block_words * b + k) 0

unfoldable pub instr_field : List ℕ → ℕ → ℕ → ℕ
instr_field ws i k = get_or ws (instrs_from ws + instr_words * i + k) 0

unfoldable pub edge_field : List ℕ → ℕ → ℕ → ℕ
edge_field ws e k = get_or ws (edges_from ws + edge_words * e + k) 0

unfoldable pub constant_field : List ℕ → ℕ → ℕ → ℕ
constant_field ws c k = get_or ws (constants_from ws + constant_words * c + k) 0

unfoldable pub pool_at : List ℕ → ℕ → ℕ
pool_at ws i = get_or ws (pool_from ws + i) 0

-- the n numbers of the pool from i on
unfoldable pub list_at : List ℕ → ℕ → ℕ → List ℕ
list_at ws i zero = []
list_at ws i (suc n) = pool_at ws i ∷ list_at ws (i + 1) n
