-- The default's constant everywhere, then each entry's.
use Rattle.lookups.proofs.Lookups.{lookup-filled}
use Rattle.lookups.proofs.lookup_slots.Goals as goal

pub returns : goal.returns
returns c =
    let a = c.args in
    lookup-filled a.ws.now a.i a.start _ c.requires.range.1 c.put_default-f.ensures
    (rw (c.instr_field-c.ensures, c.instr_field-n.ensures) at c.store_entries.ensures)
