-- The chain of the definition at the kind that was found.
use Rattle.std.proofs.Common.{rules}
use mathlib.Core.Path.{sym, ◌∙◌}
use Rattle.place.specs.Registers.{registers}
use Rattle.lower.specs.Instructions.{lower_lookup}
use Rattle.instrs.specs.Instrs.{load_const_ops, instr_ops}
use Rattle.instr_runs.proofs.Chosen.{of_1, of_2}
use Rattle.instr_runs.proofs.Runs.{instr_compute}
use Rattle.instr_runs.proofs.put_instr.Goals as goal

pub returns-in-2 : goal.returns-in-2
unfolding instr_ops
returns-in-2 c =
    λ l.
    rw (sym c.instr_field.ensures ∙ c.in-2.is) (of_1 (load_const_ops _ _ _ _ _) c.instr_field-c.ensures (c.put_load_const.ensures l))

pub returns-in-3 : goal.returns-in-3
unfolding instr_ops
returns-in-3 c =
    λ l. rw (sym c.instr_field.ensures ∙ c.in-3.is) (c.put_call.ensures l)

pub returns-in-4 : goal.returns-in-4
unfolding instr_ops
returns-in-4 c =
    λ l. rw (sym c.instr_field.ensures ∙ c.in-4.is) (c.put_sys.ensures l)

pub returns-in-11 : goal.returns-in-11
unfolding instr_ops
returns-in-11 c =
    λ l.
    rw (sym c.instr_field.ensures ∙ c.in-11.is)
    (of_2 (λ d s. lower_lookup registers d s c.args.table) c.dest_place.ensures c.operand_place-subject.ensures (c.put_lookup.ensures l))

pub returns-in_default : goal.returns-in_default
returns-in_default c =
    λ l.
    instr_compute _ _ _ _ _ c.instr_field.ensures (search rules) (c.put_compute.ensures l)
