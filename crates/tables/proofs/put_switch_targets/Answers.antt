-- The slots from block b on are left; each table has at most 4,096 slots and 1,024 pads.
use Rattle.std.proofs.Common.{arith}
use Rattle.tables.specs.Tables.{switch_targets_after}
use Rattle.tables.proofs.Switches.{switch_slots_few, switch-pads_few, targets_turn, targets_end}
use Rattle.tables.proofs.put_switch_targets.Goals as goal

pub loop-b-preserved : goal.loop-b-preserved
loop-b-preserved c =
    let a = c.args in
    let l = c.loop-b in
    let there = rw c.head_field-end.ensures at c.loop-b-test.true in
    record {
      few_slots = omega (arith, l.invariant.few_slots, c.switch_slots-t.ensures.start_value.0, switch_slots_few c.requires.ready l.b there);
      few_pads = omega (arith, l.invariant.few_pads, c.switch_slots-t.ensures.start_value.1, switch-pads_few a.vs.map.now l.b c.requires.ready there);
      left = targets_turn a.vs.ws.now a.vs.map.now a.used c.head_field-end.result l.t.start l.t.label l.b l.invariant.left _ _
          c.loop-b-test.true c.switch_slots-t.ensures.start_value.0 c.switch_slots-t.ensures.start_value.1 c.switch_slots-t.ensures.grows;
    }

pub returns : goal.returns
unfolding switch_targets_after
returns c =
    let a = c.args in
    let l = c.loop-b in
    rw c.head_field-end.ensures at (targets_end a.vs.ws.now a.vs.map.now a.used c.head_field-end.result l.t.start l.t.label l.b l.invariant.left c.loop-b-test.false)
