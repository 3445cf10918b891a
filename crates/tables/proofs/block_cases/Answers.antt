-- The cases from the j-th on are left, each with a slot of the table.
use Rattle.std.proofs.Common.{◌≡◌, arith}
use Rattle.fit.specs.Keys.{keys_at, smallest}
use Rattle.ready.specs.Ready.{KeysReady}
use Rattle.tables.proofs.Ranges.{case_low, case_slot}
use Rattle.tables.proofs.Switches.{cases-turn, cases_end, pads-turn, pads-end}
use Rattle.tables.proofs.block_cases.Goals as goal

pub slot_for-slot-requires : goal.slot_for-slot-requires
slot_for-slot-requires c =
    let ws = c.args.vs.ws.now in
    let first = c.block_field-c.result in
    let n = c.block_field-n.result in
    let low : c.args.low ≡ smallest ws (keys_at 1 first n) = rw (c.block_field-c.ensures, c.block_field-n.ensures) c.requires.start_bound.3 in
    (omega arith, case_low ws first n c.args.low low c.loop-j.j c.loop-j-test.true)

pub overflow_add-t : goal.overflow_add-t
overflow_add-t c =
    let ws = c.args.vs.ws.now in
    let first = c.block_field-c.result in
    let n = c.block_field-n.result in
    let low : c.args.low ≡ smallest ws (keys_at 1 first n) = rw (c.block_field-c.ensures, c.block_field-n.ensures) c.requires.start_bound.3 in
    let keys : KeysReady ws 1 first n = rw (c.block_field-c.ensures, c.block_field-n.ensures) c.requires.keys_ready in
    omega (arith, c.requires.start_bound.0, c.slot_for-slot.ensures, case_slot ws first n c.args.low low c.loop-j.j c.loop-j-test.true keys)

pub loop-j-preserved : goal.loop-j-preserved
loop-j-preserved c =
    let a = c.args in
    let l = c.loop-j in
    let ws = a.vs.ws.now in
    let map = a.vs.map.now in
    let first = c.block_field-c.result in
    let edge = c.block_field-edge.result in
    let n = c.block_field-n.result in
    let low : a.low ≡ smallest ws (keys_at 1 first n) = rw (c.block_field-c.ensures, c.block_field-n.ensures) c.requires.start_bound.3 in
    record {
      pads = pads-turn ws map a.t.label edge n l.next l.j l.invariant.pads _ c.loop-j-test.true c.store_case-next.ensures.value;
      cases = cases-turn ws map (keys_at 1 first n) a.t.start a.t.label first edge n l.next l.j l.invariant.cases _ _
          c.loop-j-test.true c.store_case-next.ensures.value (rw low at c.slot_for-slot.ensures) c.store_case-next.ensures.grows;
    }

pub returns-clause-value : goal.returns-clause-value
returns-clause-value c =
    let a = c.args in
    let l = c.loop-j in
    rw (c.block_field-edge.ensures, c.block_field-n.ensures) at
    (pads-end a.vs.ws.now a.vs.map.now a.t.label c.block_field-edge.result c.block_field-n.result l.next l.j l.invariant.pads c.loop-j-test.false)

pub returns-clause-grows : goal.returns-clause-grows
returns-clause-grows c =
    let a = c.args in
    let l = c.loop-j in
    let first = c.block_field-c.result in
    let n = c.block_field-n.result in
    rw (c.block_field-c.ensures, c.block_field-edge.ensures, c.block_field-n.ensures) at
    (cases_end a.vs.ws.now a.vs.map.now (keys_at 1 first n) a.t.start a.t.label first c.block_field-edge.result n l.next l.j l.invariant.cases c.loop-j-test.false)
