-- What each field of a record is.
use Rattle.std.specs.Prelude.{ℕ, ◌+◌, ◌*◌, List, Bool, eqb}
use Rattle.input.specs.Layout.{value_field, block_field, instr_field, edge_field, constant_field, list_at}

-- A value: start and end of its live interval, and its first hint (0 for none, else the register and 1).
abbrev pub start_of : List ℕ → ℕ → ℕ
start_of ws v = value_field ws v 0

abbrev pub end_of : List ℕ → ℕ → ℕ
end_of ws v = value_field ws v 1

abbrev pub hint_of : List ℕ → ℕ → ℕ
hint_of ws v = value_field ws v 2

-- A block: its id, tombstone mark, parameters, instructions, and its terminator.
abbrev pub block_id : List ℕ → ℕ → ℕ
block_id ws b = block_field ws b 0

abbrev pub tombstone : List ℕ → ℕ → ℕ
tombstone ws b = block_field ws b 1

abbrev pub is_live : List ℕ → ℕ → Bool
is_live ws b = eqb (tombstone ws b) 0

abbrev pub params_at : List ℕ → ℕ → ℕ
params_at ws b = block_field ws b 2

abbrev pub param_count : List ℕ → ℕ → ℕ
param_count ws b = block_field ws b 3

abbrev pub params_of : List ℕ → ℕ → List ℕ
params_of ws b = list_at ws (params_at ws b) (param_count ws b)

abbrev pub first_instr : List ℕ → ℕ → ℕ
first_instr ws b = block_field ws b 4

abbrev pub instr_count : List ℕ → ℕ → ℕ
instr_count ws b = block_field ws b 5

-- Its terminator: kind, span, operands (a list of the pool), edges, and two more words that the kind gives a meaning.
abbrev pub term_kind : List ℕ → ℕ → ℕ
term_kind ws b = block_field ws b 6

abbrev pub term_span : List ℕ → ℕ → ℕ
term_span ws b = block_field ws b 7

abbrev pub term_operands_at : List ℕ → ℕ → ℕ
term_operands_at ws b = block_field ws b 8

abbrev pub term_operand_count : List ℕ → ℕ → ℕ
term_operand_count ws b = block_field ws b 9

abbrev pub term_operands : List ℕ → ℕ → List ℕ
term_operands ws b = list_at ws (term_operands_at ws b) (term_operand_count ws b)

abbrev pub first_edge : List ℕ → ℕ → ℕ
first_edge ws b = block_field ws b 10

abbrev pub edge_count : List ℕ → ℕ → ℕ
edge_count ws b = block_field ws b 11

abbrev pub term_x : List ℕ → ℕ → ℕ
term_x ws b = block_field ws b 12

abbrev pub term_y : List ℕ → ℕ → ℕ
term_y ws b = block_field ws b 13

-- the kinds of terminator, in ir's order: none, Return, Jump, Branch, BranchCmpImm, BranchCmp, Tail, Switch
abbrev pub no_term : ℕ
no_term = 0

abbrev pub return : ℕ
return = 1

abbrev pub jump : ℕ
jump = 2

abbrev pub branch : ℕ
branch = 3

abbrev pub branch_cmp_imm : ℕ
branch_cmp_imm = 4

abbrev pub branch_cmp : ℕ
branch_cmp = 5

abbrev pub tail_call : ℕ
tail_call = 6

abbrev pub switch : ℕ
switch = 7

-- An instruction: kind, span, destination (0 for none, else the value and 1), operands, and three more words.
abbrev pub instr_kind : List ℕ → ℕ → ℕ
instr_kind ws i = instr_field ws i 0

abbrev pub instr_span : List ℕ → ℕ → ℕ
instr_span ws i = instr_field ws i 1

abbrev pub destination : List ℕ → ℕ → ℕ
destination ws i = instr_field ws i 2

abbrev pub operands_at : List ℕ → ℕ → ℕ
operands_at ws i = instr_field ws i 3

abbrev pub operand_count : List ℕ → ℕ → ℕ
operand_count ws i = instr_field ws i 4

abbrev pub operands_of : List ℕ → ℕ → List ℕ
operands_of ws i = list_at ws (operands_at ws i) (operand_count ws i)

abbrev pub instr_x : List ℕ → ℕ → ℕ
instr_x ws i = instr_field ws i 5

abbrev pub instr_y : List ℕ → ℕ → ℕ
instr_y ws i = instr_field ws i 6

abbrev pub instr_z : List ℕ → ℕ → ℕ
instr_z ws i = instr_field ws i 7

-- the kinds of instruction, in ir's order: Bin, BinImm, LoadConst, Call, Sys, Cast, Alloc, Store, Assert, Load, AddrOf, Lookup, Noop
abbrev pub bin : ℕ
bin = 0

abbrev pub bin_imm : ℕ
bin_imm = 1

abbrev pub load_const : ℕ
load_const = 2

abbrev pub call : ℕ
call = 3

abbrev pub sys : ℕ
sys = 4

abbrev pub cast : ℕ
cast = 5

abbrev pub alloc : ℕ
alloc = 6

abbrev pub store : ℕ
store = 7

abbrev pub assert : ℕ
assert = 8

abbrev pub load : ℕ
load = 9

abbrev pub addr_of : ℕ
addr_of = 10

abbrev pub lookup : ℕ
lookup = 11

abbrev pub noop : ℕ
noop = 12

-- An edge: the block that it goes to, and its arguments.
abbrev pub edge_target : List ℕ → ℕ → ℕ
edge_target ws e = edge_field ws e 0

abbrev pub arguments_at : List ℕ → ℕ → ℕ
arguments_at ws e = edge_field ws e 1

abbrev pub argument_count : List ℕ → ℕ → ℕ
argument_count ws e = edge_field ws e 2

abbrev pub arguments_of : List ℕ → ℕ → List ℕ
arguments_of ws e = list_at ws (arguments_at ws e) (argument_count ws e)

-- A constant: kind and 64-bit payload, low word first. The kinds are Undefined, False, True, Int, Double, Str. From its x on a Switch has its
-- keys, one for each of y cases; a Lookup has key, value, key, value .. of y entries, and then its default.
abbrev pub constant_kind : List ℕ → ℕ → ℕ
constant_kind ws c = constant_field ws c 0

abbrev pub payload_of : List ℕ → ℕ → ℕ
payload_of ws c = constant_field ws c 1 + 4294967296 * constant_field ws c 2

abbrev pub undefined_const : ℕ
undefined_const = 0

abbrev pub false_const : ℕ
false_const = 1

abbrev pub true_const : ℕ
true_const = 2

abbrev pub int_const : ℕ
int_const = 3

abbrev pub double_const : ℕ
double_const = 4

abbrev pub str_const : ℕ
str_const = 5
