-- The heads from block b on are left; each table has at most 4,096 slots.
use Rattle.std.proofs.Common.{arith}
use Rattle.tables.specs.Tables.{switch_heads_after}
use Rattle.tables.proofs.Switches.{switch_slots_few, heads_turn, heads_end}
use Rattle.tables.proofs.put_switch_heads.Goals as goal

pub loop-b-preserved : goal.loop-b-preserved
loop-b-preserved c =
    let a = c.args in
    let l = c.loop-b in
    record {
      few = omega (arith, l.invariant.few, c.switch_head-t.ensures.start_value, switch_slots_few c.requires.ready l.b (rw c.head_field-b-end.ensures at c.loop-b-test.true));
      left = heads_turn a.ws.now a.used c.head_field-b-end.result l.t.start l.b l.invariant.left _ c.loop-b-test.true c.switch_head-t.ensures.start_value c.switch_head-t.ensures.grows;
    }

pub returns : goal.returns
unfolding switch_heads_after
returns c =
    let a = c.args in
    let l = c.loop-b in
    rw c.head_field-b-end.ensures at (heads_end a.ws.now a.used c.head_field-b-end.result l.t.start l.b l.invariant.left c.loop-b-test.false)
