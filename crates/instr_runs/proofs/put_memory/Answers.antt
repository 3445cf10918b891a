-- The chain of the definition at the kind that was found.
use mathlib.Core.Path.{sym, ◌∙◌}
use Rattle.std.proofs.Common.{rules}
use native.Mathlib.Omega.{arith}
use Rattle.place.specs.Registers.{registers}
use Rattle.input.specs.Forms.{instr_forms}
use Rattle.lower.specs.Instructions.{lower_alloc, lower_store, lower_load, lower_addr_of}
use Rattle.instrs.specs.Instrs.{memory_ops}
use Rattle.instr_runs.proofs.Chosen.{of_3, of_4, memory_none, x_most, z_most}
use Rattle.instr_runs.proofs.put_memory.Goals as goal

pub overflow_cast-x : goal.overflow_cast-x
unfolding instr_forms
overflow_cast-x c = omega (arith, x_most _ _ 6 c.requires c.instr_field.ensures c.in-6.is c.instr_field-x.ensures)

pub overflow_cast-z : goal.overflow_cast-z
unfolding instr_forms
overflow_cast-z c = omega (arith, z_most _ _ 6 c.requires c.instr_field.ensures c.in-6.is c.instr_field-z.ensures)

pub returns-in-6 : goal.returns-in-6
unfolding memory_ops
returns-in-6 c =
    λ l.
    rw (sym c.instr_field.ensures ∙ c.in-6.is)
    (of_4 (lower_alloc registers) c.dest_place-d.ensures c.instr_field-x.ensures c.instr_field-y.ensures c.instr_field-z.ensures (c.put_alloc.ensures l))

pub returns-in-7 : goal.returns-in-7
unfolding memory_ops
returns-in-7 c =
    λ l.
    rw (sym c.instr_field.ensures ∙ c.in-7.is)
    (of_3 (lower_store registers) c.operand_place-a.ensures c.operand_place-b.ensures c.instr_field-y.ensures (c.put_store_to.ensures l))

pub returns-in-9 : goal.returns-in-9
unfolding memory_ops
returns-in-9 c =
    λ l.
    rw (sym c.instr_field.ensures ∙ c.in-9.is)
    (of_3 (lower_load registers) c.dest_place-d.ensures c.operand_place-a.ensures c.instr_field-y.ensures (c.put_load.ensures l))

pub returns-in-10 : goal.returns-in-10
unfolding memory_ops
returns-in-10 c =
    λ l.
    rw (sym c.instr_field.ensures ∙ c.in-10.is)
    (of_3 (lower_addr_of registers) c.dest_place-d.ensures c.operand_place-a.ensures c.instr_field-y.ensures (c.put_addr_of.ensures l))

pub returns-in_default : goal.returns-in_default
returns-in_default c = λ l. memory_none _ _ _ _ _ c.instr_field.ensures (search rules)
