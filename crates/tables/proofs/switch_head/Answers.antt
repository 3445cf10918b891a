-- A block without a Switch changes nothing.
use Rattle.std.proofs.Common.{sym, ◌∙◌}
use Rattle.tables.proofs.Switches.{head-some}
use Rattle.tables.proofs.switch_head.Goals as goal

pub returns-clause-grows : goal.returns-clause-grows
returns-clause-grows c =
    let a = c.args in
    let k = c.case_range-k.ensures in
    head-some a.ws.now a.b a.t.start (sym c.has_switch.ensures ∙ c.if-not-has_switch.false) _ _ k.0 k.1 c.put_head.ensures
