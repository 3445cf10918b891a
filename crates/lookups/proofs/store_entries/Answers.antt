-- The entries from the j-th on are left, each with a slot of the table.
use native.Mathlib.Omega.{arith}
use Rattle.fit.specs.Keys.{keys_at}
use Rattle.tables.proofs.Ranges.{key_low, key_slot}
use Rattle.lookups.proofs.Lookups.{entries-turn, entries-end}
use Rattle.lookups.proofs.store_entries.Goals as goal

pub slot_for-slot-requires : goal.slot_for-slot-requires
slot_for-slot-requires c = (omega arith, key_low c.args.ws.now 2 c.args.c c.args.n c.args.low c.requires.start_bound.1 c.loop-j.j c.loop-j-test.true)

pub overflow_add-t : goal.overflow_add-t
overflow_add-t c =
    omega (arith, c.requires.start_bound.0, c.slot_for-slot.ensures, key_slot c.args.ws.now 2 c.args.c c.args.n c.args.low c.requires.start_bound.1 c.loop-j.j c.loop-j-test.true c.requires.keys_ready)

pub store_entry-requires : goal.store_entry-requires
store_entry-requires c =
    (omega (arith, c.requires.start_bound.0, c.slot_for-slot.ensures, key_slot c.args.ws.now 2 c.args.c c.args.n c.args.low c.requires.start_bound.1 c.loop-j.j c.loop-j-test.true c.requires.keys_ready), omega arith)

pub loop-j-preserved : goal.loop-j-preserved
loop-j-preserved c =
    let a = c.args in
    let l = c.loop-j in
    entries-turn a.ws.now (keys_at 2 a.c a.n) a.t.start a.c a.n l.j l.invariant _
    c.loop-j-test.true (rw c.requires.start_bound.1 at c.slot_for-slot.ensures) c.store_entry.ensures

pub returns : goal.returns
returns c =
    let a = c.args in
    let l = c.loop-j in
    entries-end a.ws.now (keys_at 2 a.c a.n) a.t.start a.c a.n l.j l.invariant c.loop-j-test.false
