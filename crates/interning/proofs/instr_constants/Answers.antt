-- By the kind and the pass.
use mathlib.Core.Path.{sym, ◌∙◌}
use native.Mathlib.Omega.{arith}
use Rattle.interning.proofs.Interned.{loads_one, loads_none, looks_none, looks_all}
use Rattle.interning.proofs.instr_constants.Goals as goal

pub returns-in-2-default : goal.returns-in-2-default
returns-in-2-default c = (omega arith, loads_one c.args.ws.now c.args.i c.args.asked (sym c.instr_field.ensures ∙ c.in-2-default.is-0))

pub returns-in-11-Strings : goal.returns-in-11-Strings
returns-in-11-Strings c = (
  omega arith,
  rw c.instr_field-in-11-Strings.ensures (looks_all c.args.ws.now c.args.i c.args.asked c.in-11-Strings.is-1 (sym c.instr_field.ensures ∙ c.in-11-Strings.is-0)),
)

pub returns-in_default : goal.returns-in_default
returns-in_default c = (omega arith, loads_none c.args.ws.now c.args.i c.args.asked c.in_default.is-1 (λ e. omega arith))

pub returns-in_default-2 : goal.returns-in_default-2
returns-in_default-2 c = (omega arith, looks_none c.args.ws.now c.args.i c.args.asked (λ e. omega arith) (λ e. omega arith))
