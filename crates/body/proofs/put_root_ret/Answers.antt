-- One law each for another function, a root that ends in Ret or Tail, and one that does not.
use mathlib.Core.Path.{sym, ◌∙◌}
use Rattle.body.proofs.Ends.{root_other, root_ends, root_ret_lem}
use Rattle.body.proofs.put_root_ret.Goals.{then-head_field-ne0-via-then-head_field-ne0, then-head_field-ne0-via-else-head_field-ne0+then-ends_flow}
use Rattle.body.proofs.put_root_ret.Goals as goal

pub returns-then-head_field-ne0 : goal.returns-then-head_field-ne0
returns-then-head_field-ne0 c =
    λ l.
    elim c.then-head_field-ne0.branch [
      | then-head_field-ne0-via-then-head_field-ne0 w ↦ root_other _ c.head_field.ensures w.if-head_field-ne0.true
      | then-head_field-ne0-via-else-head_field-ne0+then-ends_flow w ↦ root_ends _ c.head_field.ensures w.if-head_field-ne0.false (sym w.ends_flow.ensures ∙ w.if-ends_flow.true)
    ]

pub returns : goal.returns
returns c =
    λ l. root_ret_lem _ c.head_field.ensures c.if-head_field-ne0.false (sym c.ends_flow.ensures ∙ c.if-ends_flow.false) c.ret.ensures (c.put.ensures l)
