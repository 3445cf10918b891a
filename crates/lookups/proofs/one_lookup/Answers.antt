-- A Lookup's head or its slots, by the pass.
use mathlib.Core.Path.{sym, ◌∙◌}
use Rattle.lookups.proofs.Lookups.{lookup_headed, lookup_slotted}
use Rattle.lookups.proofs.one_lookup.Goals.{in-Heads, in-Values}
use Rattle.lookups.proofs.one_lookup.Goals as goal

pub returns-clause-grows : goal.returns-clause-grows
returns-clause-grows c =
    let a = c.args in
    let h = sym c.instr_field.ensures ∙ c.if-instr_field-ne-LOOKUP.false in
    let k = c.entry_range-k.ensures in
    elim c.match-part.branch [
      | in-Heads w ↦ rw (w.list-is, w.end-is) (lookup_headed a.ws.now a.i a.t.start h _ _ a.part w.in-Heads.is k.0 k.1 w.lookup_head-end.ensures)
      | in-Values w ↦ rw (w.list-is, w.end-is) (lookup_slotted a.ws.now a.i a.t.start h a.part w.in-Values.is w.lookup_slots-end.ensures)
    ]
