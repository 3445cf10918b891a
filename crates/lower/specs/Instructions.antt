-- The instructions that are one op: Bin, BinImm, LoadConst, Cast, Alloc, Store, Load, AddrOf, Lookup, Assert. Operands are loaded in the
-- Rust's order. Each is given the places of its destination and operands.
use Rattle.std.specs.Prelude.{ℕ, ◌-◌, ◌%◌, ◌^◌, Bool, true, false, ltb, eqb}
use Rattle.base.specs.Choice.{pick}
use Rattle.base.specs.Emission.{Out, emit}
use Rattle.op.specs.declared.Op.{Op}
use Rattle.op.specs.Words.{word}
use Rattle.op.specs.Ops as op
use Rattle.input.specs.Records.{false_const, true_const, int_const}
use Rattle.lower.specs.Operands.{operand, into}

unfoldable pub lower_bin : ℕ → ℕ → ℕ → ℕ → ℕ → Out → Out
lower_bin n operator dst lhs rhs = into n dst (λ d. operand n lhs (λ l. operand n rhs (λ r. emit (word (op.bin operator d l r)))))

unfoldable pub lower_bin_imm : ℕ → ℕ → ℕ → ℕ → ℕ → Out → Out
lower_bin_imm n operator dst lhs imm = into n dst (λ d. operand n lhs (λ l. emit (word (op.bin_imm operator d l imm))))

-- types 0 Int, 1 Double, 2 Bool; Bool to Int is a Mov
abbrev pub cast_op : ℕ → ℕ → ℕ → ℕ → Op
cast_op to from d s =
    pick (eqb from 0) (pick (eqb to 1) (op.cast_to_double d s) (op.cast_to_bool d s)) (pick (eqb from 1) (op.cast_to_int d s) (op.mov d s))

unfoldable pub lower_cast : ℕ → ℕ → ℕ → ℕ → ℕ → Out → Out
lower_cast n to from dst src = into n dst (λ d. operand n src (λ s. emit (word (cast_op to from d s))))

unfoldable pub lower_alloc : ℕ → ℕ → ℕ → ℕ → ℕ → Out → Out
lower_alloc n dst kind size align = into n dst (λ d. emit (word (op.alloc d kind size align)))

unfoldable pub lower_store : ℕ → ℕ → ℕ → ℕ → Out → Out
lower_store n src base offset = operand n src (λ s. operand n base (λ b. emit (word (op.store b offset s))))

unfoldable pub lower_load : ℕ → ℕ → ℕ → ℕ → Out → Out
lower_load n dst base offset = into n dst (λ d. operand n base (λ b. emit (word (op.load d b offset))))

unfoldable pub lower_addr_of : ℕ → ℕ → ℕ → ℕ → Out → Out
lower_addr_of n dst base offset = into n dst (λ d. operand n base (λ b. emit (word (op.addr_of d b offset))))

-- the table's number in its own list
unfoldable pub lower_lookup : ℕ → ℕ → ℕ → ℕ → Out → Out
lower_lookup n dst subject table = into n dst (λ d. operand n subject (λ s. emit (word (op.lookup d s table))))

-- its destination is never read, but a slot is still stored from TMP
unfoldable pub lower_assert : ℕ → ℕ → ℕ → Out → Out
lower_assert n dst cond = into n dst (λ d. operand n cond (λ c. emit (word (op.assert c))))

-- Int strictly between -2147483648 and 2147483647, as two's complement of 64 bits
abbrev pub small_int : ℕ → Bool
small_int payload = pick (ltb payload (2 ^ 31 - 1)) true (ltb (2 ^ 64 - 2 ^ 31) payload)

-- the constants that LoadG loads: all but a small Int, True, False and Undefined
unfoldable pub is_global : ℕ → ℕ → Bool
is_global kind payload = pick (eqb kind int_const) (pick (small_int payload) false true) (ltb int_const kind)

-- LoadConst: a small Int, True and False (1 and 0) give LoadI; Undefined gives nothing, though a slot destination is still stored from TMP;
-- the rest LoadG, with the constant's number among the globals.
unfoldable pub const_ops : ℕ → ℕ → ℕ → ℕ → Out → Out
const_ops kind payload global d =
    pick (is_global kind payload) (emit (word (op.load_g d global)))
    (pick (eqb kind int_const) (emit (word (op.load_i d (payload % 2 ^ 32))))
    (pick (eqb kind true_const) (emit (word (op.load_i d 1)))
    (pick (eqb kind false_const) (emit (word (op.load_i d 0)))
    (λ o. o))))

unfoldable pub lower_const : ℕ → ℕ → ℕ → ℕ → ℕ → Out → Out
lower_const n dst kind payload global = into n dst (const_ops kind payload global)
