-- The instructions from the i-th on are left; each table has at most 4,096 slots.
use native.Mathlib.Omega.{arith}
use Rattle.lookups.proofs.Lookups.{instrs_turn, instrs_end, slots_turn, slots_end}
use Rattle.lookups.proofs.some_lookups.Goals as goal

pub loop-i-preserved : goal.loop-i-preserved
loop-i-preserved c =
    let a = c.args in
    let l = c.loop-i in
    record {
      slots = slots_turn a.ws.now a.t.start a.first a.n l.u.start l.i l.invariant.slots _ (omega arith) c.loop-i-test.true c.one_lookup-u.ensures.start_value.0 c.one_lookup-u.ensures.start_value.1;
      left = instrs_turn a.part a.ws.now a.t.start a.first a.n l.u.start l.i l.invariant.left _ c.loop-i-test.true c.one_lookup-u.ensures.start_value.0 c.one_lookup-u.ensures.grows;
    }

pub returns : goal.returns
returns c =
    let a = c.args in
    let l = c.loop-i in
    record {
      start_value = slots_end a.ws.now a.t.start a.first a.n l.u.start l.i l.invariant.slots c.loop-i-test.false (omega arith);
      grows = instrs_end a.part a.ws.now a.t.start a.first a.n l.u.start l.i l.invariant.left c.loop-i-test.false;
    }
