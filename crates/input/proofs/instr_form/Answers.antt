-- The constant's rows are the definition's list cut into rows of five, and past its end both are 0.
use mathlib.Core.Path.{sym}
use Prim.Native.Nat.{◌+◌, ◌*◌, ◌≤◌}
use native.Mathlib.Omega.{arith}
use lib.ListN.{get_or-eq_default}
use Rattle.input.specs.Forms.{instr_forms}
use Rattle.input.proofs.Rows.{row_field}
use Rattle.input.proofs.instr_form.Goals as goal

pub returns-then-kind-lt-COUNT : goal.returns-then-kind-lt-COUNT
unfolding instr_forms
returns-then-kind-lt-COUNT c = row_field 5 13 instr_forms _ _ c.if-kind-lt-COUNT.true c.requires

pub returns-else-kind-lt-COUNT : goal.returns-else-kind-lt-COUNT
unfolding instr_forms
returns-else-kind-lt-COUNT c = let h : 65 ≤ 5 * c.args.kind + c.args.k = omega arith in sym (get_or-eq_default instr_forms 0 h)
