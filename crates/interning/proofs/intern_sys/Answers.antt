-- Another instruction has no builtin.
use mathlib.Core.Path.{sym, ◌∙◌}
use Rattle.interning.proofs.Interned.{sys_one, sys_none}
use Rattle.interning.proofs.intern_sys.Goals as goal

pub returns-then-instr_field-ne-SYS : goal.returns-then-instr_field-ne-SYS
returns-then-instr_field-ne-SYS c = sys_none c.args.ws.now c.args.i _ _ (λ z. c.if-instr_field-ne-SYS.true (c.instr_field.ensures ∙ z))

pub returns : goal.returns
returns c =
    sys_one c.args.ws.now c.args.i (sym c.instr_field.ensures ∙ c.if-instr_field-ne-SYS.false) (rw c.instr_field-2.ensures at c.intern_builtin.ensures)
