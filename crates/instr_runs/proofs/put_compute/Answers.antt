-- The chain of the definition at the kind that was found.
use Rattle.std.proofs.Common.{rules}
use mathlib.Core.Path.{sym, ◌∙◌}
use native.Mathlib.Omega.{arith}
use Rattle.place.specs.Registers.{registers}
use Rattle.input.specs.Forms.{instr_forms}
use Rattle.lower.specs.Instructions.{lower_bin, lower_bin_imm, lower_cast, lower_assert}
use Rattle.instrs.specs.Instrs.{compute_ops}
use Rattle.instr_runs.proofs.Chosen.{of_2, of_4, compute_memory, x_most}
use Rattle.instr_runs.proofs.put_compute.Goals as goal

pub overflow_cast-x : goal.overflow_cast-x
unfolding instr_forms
overflow_cast-x c = omega (arith, x_most _ _ 0 c.requires c.instr_field.ensures c.in-0.is c.instr_field-x.ensures)

pub returns-in-0 : goal.returns-in-0
unfolding compute_ops
returns-in-0 c =
    λ l.
    rw (sym c.instr_field.ensures ∙ c.in-0.is)
    (of_4 (lower_bin registers) c.instr_field-x.ensures c.dest_place-d.ensures c.operand_place-a.ensures c.operand_place-b.ensures (c.put_bin.ensures l))

pub overflow_cast-x-in-1 : goal.overflow_cast-x-in-1
unfolding instr_forms
overflow_cast-x-in-1 c = omega (arith, x_most _ _ 1 c.requires c.instr_field.ensures c.in-1.is c.instr_field-x.ensures)

pub returns-in-1 : goal.returns-in-1
unfolding compute_ops
returns-in-1 c =
    λ l.
    rw (sym c.instr_field.ensures ∙ c.in-1.is)
    (of_4 (lower_bin_imm registers) c.instr_field-x.ensures c.dest_place-d.ensures c.operand_place-a.ensures c.instr_field-y.ensures (c.put_bin_imm.ensures l))

pub returns-in-5 : goal.returns-in-5
unfolding compute_ops
returns-in-5 c =
    λ l.
    rw (sym c.instr_field.ensures ∙ c.in-5.is)
    (of_4 (lower_cast registers) c.instr_field-x.ensures c.instr_field-y.ensures c.dest_place-d.ensures c.operand_place-a.ensures (c.put_cast.ensures l))

pub returns-in-8 : goal.returns-in-8
unfolding compute_ops
returns-in-8 c =
    λ l.
    rw (sym c.instr_field.ensures ∙ c.in-8.is)
    (of_2 (lower_assert registers) c.dest_place-d.ensures c.operand_place-a.ensures (c.put_assert.ensures l))

pub returns-in_default : goal.returns-in_default
returns-in_default c =
    λ l.
    compute_memory _ _ _ _ _ c.instr_field.ensures (search rules) (c.put_memory.ensures l)
