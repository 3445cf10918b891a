-- What is left to store from v on: each turn stores one.
use mathlib.Core.Path.{sym, ◌∙◌}
use Rattle.walk.proofs.Begin.{hints_all, hints-next, hints_last}
use Rattle.walk.proofs.first_hints.Goals as goal

pub loop-v-init : goal.loop-v-init
loop-v-init c = hints_all c.args.wish.now c.head_field-n.result c.args.ws.now

pub loop-v-preserved : goal.loop-v-preserved
loop-v-preserved c = let l = c.loop-v in
    rw (c.set.ensures, c.value_field.ensures)
    (sym (hints-next l.wish l.v c.head_field-n.result c.args.ws.now c.loop-v-test.true) ∙ l.invariant)

pub returns : goal.returns
returns c = let l = c.loop-v in
    rw (sym c.head_field-n.ensures) (sym (hints_last l.wish l.v c.head_field-n.result c.args.ws.now c.loop-v-test.false) ∙ l.invariant)
