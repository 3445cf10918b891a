-- Single instructions by the rules for their kinds, and a run of them, on a machine with n registers.
use Rattle.std.specs.Prelude.{ℕ, zero, suc, ◌+◌, ◌-◌, List, eqb, get_or}
use Rattle.base.specs.Choice.{pick}
use Rattle.base.specs.Emission.{Out, at_span}
use Rattle.input.specs.Layout.{pool_at}
use Rattle.input.specs.Records as in_words
use Rattle.input.specs.Records.{instr_kind, instr_span, destination, operands_at, operands_of, instr_x, instr_y, instr_z, constant_kind, payload_of}
use Rattle.lower.specs.Operands.{place_at}
use Rattle.lower.specs.Instructions.{lower_bin, lower_bin_imm, lower_cast, lower_alloc, lower_store, lower_load, lower_addr_of, lower_lookup, lower_assert, lower_const}
use Rattle.calls.specs.Calls.{lower_call, lower_sys}
use Rattle.interning.specs.Interning.{global_of, builtin_of}

-- What lowering reads: the function, the places of its values, the registers noted at its calls, and of the program the function table, where
-- the function itself is entered, the globals and the builtins, where its own are interned.
pub record Env : Type 0 where
  pub ws : List ℕ
  pub places : List ℕ
  pub noted : List ℕ
  pub functions : List ℕ
  pub globals : List ℕ
  pub builtins : List ℕ

abbrev pub seen : List ℕ → List ℕ → List ℕ → List ℕ → List ℕ → List ℕ → Env
seen ws places noted functions globals builtins =
    record { ws = ws; places = places; noted = noted; functions = functions; globals = globals; builtins = builtins }

-- the places of an instruction's destination and of its operand k
abbrev pub dest_place : List ℕ → List ℕ → ℕ → ℕ
dest_place ws places i = place_at places (destination ws i - 1)

abbrev pub operand_place : List ℕ → List ℕ → ℕ → ℕ → ℕ
operand_place ws places i k = place_at places (pool_at ws (operands_at ws i + k))

-- An instruction by its kind. Those that read nothing of the program: memory, ..
unfoldable pub memory_ops : ℕ → List ℕ → List ℕ → ℕ → Out → Out
memory_ops n ws places i =
    pick (eqb (instr_kind ws i) in_words.alloc) (lower_alloc n (dest_place ws places i) (instr_x ws i) (instr_y ws i) (instr_z ws i))
    (pick (eqb (instr_kind ws i) in_words.store) (lower_store n (operand_place ws places i 0) (operand_place ws places i 1) (instr_y ws i))
    (pick (eqb (instr_kind ws i) in_words.load) (lower_load n (dest_place ws places i) (operand_place ws places i 0) (instr_y ws i))
    (pick (eqb (instr_kind ws i) in_words.addr_of) (lower_addr_of n (dest_place ws places i) (operand_place ws places i 0) (instr_y ws i))
    (λ o. o))))

-- .. and operators, casts and Assert. A Noop gives nothing.
unfoldable pub compute_ops : ℕ → List ℕ → List ℕ → ℕ → Out → Out
compute_ops n ws places i =
    pick (eqb (instr_kind ws i) in_words.bin)
    (lower_bin n (instr_x ws i) (dest_place ws places i) (operand_place ws places i 0) (operand_place ws places i 1))
    (pick (eqb (instr_kind ws i) in_words.bin_imm)
    (lower_bin_imm n (instr_x ws i) (dest_place ws places i) (operand_place ws places i 0) (instr_y ws i))
    (pick (eqb (instr_kind ws i) in_words.cast)
    (lower_cast n (instr_x ws i) (instr_y ws i) (dest_place ws places i) (operand_place ws places i 0))
    (pick (eqb (instr_kind ws i) in_words.assert) (lower_assert n (dest_place ws places i) (operand_place ws places i 0))
    (memory_ops n ws places i))))

-- LoadConst of constant c, a global by its number
unfoldable pub load_const_ops : ℕ → List ℕ → List ℕ → List ℕ → ℕ → ℕ → Out → Out
load_const_ops n ws places globals i c =
    lower_const n (dest_place ws places i) (constant_kind ws c) (payload_of ws c) (global_of (constant_kind ws c) (payload_of ws c) globals)

-- Call, by the registers noted for its destination, of a function by its word in the table; Sys, of a builtin by its number
unfoldable pub call_ops : ℕ → List ℕ → List ℕ → List ℕ → List ℕ → ℕ → Out → Out
call_ops n ws places noted functions i =
    lower_call n places (get_or noted (destination ws i - 1) 0) (operands_of ws i) (get_or functions (instr_x ws i) 0) (dest_place ws places i)

unfoldable pub sys_ops : ℕ → List ℕ → List ℕ → List ℕ → List ℕ → ℕ → Out → Out
sys_ops n ws places noted builtins i =
    lower_sys n places (get_or noted (destination ws i - 1) 0) (operands_of ws i) (builtin_of (instr_x ws i) builtins) (dest_place ws places i)

-- those that read the program, and the rest; `table` is the number of the next lookup table
unfoldable pub instr_ops : ℕ → Env → ℕ → ℕ → Out → Out
instr_ops n env table i =
    pick (eqb (instr_kind env.ws i) in_words.load_const) (load_const_ops n env.ws env.places env.globals i (instr_x env.ws i))
    (pick (eqb (instr_kind env.ws i) in_words.call) (call_ops n env.ws env.places env.noted env.functions i)
    (pick (eqb (instr_kind env.ws i) in_words.sys) (sys_ops n env.ws env.places env.noted env.builtins i)
    (pick (eqb (instr_kind env.ws i) in_words.lookup)
    (lower_lookup n (dest_place env.ws env.places i) (operand_place env.ws env.places i 0) table)
    (compute_ops n env.ws env.places i))))

-- how many of k instructions from i on are a Lookup
unfoldable pub lookups_in : List ℕ → ℕ → ℕ → ℕ
lookups_in ws i zero = 0
lookups_in ws i (suc k) = pick (eqb (instr_kind ws i) in_words.lookup) 1 0 + lookups_in ws (i + 1) k

-- k instructions from i on, each with its span
unfoldable pub instrs_ops : ℕ → Env → ℕ → ℕ → ℕ → Out → Out
instrs_ops n env table i zero o = o
instrs_ops n env table i (suc k) o =
    instrs_ops n env (table + pick (eqb (instr_kind env.ws i) in_words.lookup) 1 0) (i + 1) k
    (instr_ops n env table i (at_span (instr_span env.ws i) o))
