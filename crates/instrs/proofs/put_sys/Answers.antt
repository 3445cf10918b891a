-- The rule by what the code found.
use native.Mathlib.Omega.{arith}
use Rattle.instrs.proofs.Instrs.{builtin_few, sys_as}
use Rattle.instrs.proofs.put_sys.Goals as goal

pub overflow_cast-number : goal.overflow_cast-number
overflow_cast-number c = omega (arith, builtin_few _ c.args.s.builtins.now c.find_builtin-number.ensures, c.args.s.builtins_few)

pub returns : goal.returns
returns c =
    λ l.
    sys_as _ _ _ _ _ c.instr_field-at.ensures c.instr_field-count.ensures c.noted_for.ensures c.dest_place.ensures _ c.instr_field-x.ensures c.find_builtin-number.ensures (c.put_sys.ensures l)
