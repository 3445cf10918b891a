-- A block's slots: the default's, then each case's.
use Rattle.std.proofs.Common.{sym, ◌∙◌}
use Rattle.tables.proofs.Switches.{table-some}
use Rattle.tables.proofs.switch_slots.Goals as goal

pub returns-clause-grows : goal.returns-clause-grows
returns-clause-grows c =
    let a = c.args in
    table-some a.vs.ws.now a.vs.map.now a.b a.t.start a.t.label _ (sym c.has_switch.ensures ∙ c.if-not-has_switch.false) c.case_range-k.ensures.1
    (rw c.default_target-other.ensures at c.put_targets-end.ensures) c.block_cases-label.ensures.grows
