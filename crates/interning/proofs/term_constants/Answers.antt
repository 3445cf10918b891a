-- By the kind and the pass.
use mathlib.Core.Path.{sym, ◌∙◌}
use native.Mathlib.Omega.{arith}
use Rattle.interning.proofs.Interned.{switches_none, switches_left, switches_all}
use Rattle.interning.proofs.term_constants.Goals as goal

pub returns-in-7-Strings : goal.returns-in-7-Strings
returns-in-7-Strings c = (
  omega arith,
  rw c.block_field-in-7-Strings.ensures (switches_all c.args.ws.now c.args.b c.args.asked c.in-7-Strings.is-1 (sym c.block_field.ensures ∙ c.in-7-Strings.is-0)),
)

pub returns-in_default : goal.returns-in_default
returns-in_default c = (omega arith, switches_left c.args.ws.now c.args.b c.args.asked c.in_default.is-1)

pub returns-in_default-2 : goal.returns-in_default-2
returns-in_default-2 c = (omega arith, switches_none c.args.ws.now c.args.b c.args.asked (λ e. omega arith))
