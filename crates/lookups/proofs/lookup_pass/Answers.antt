-- The blocks from b on are left.
use native.Mathlib.Omega.{arith}
use Rattle.lookups.proofs.Lookups.{blocks-turn, blocks_end}
use Rattle.lookups.proofs.lookup_pass.Goals as goal

pub loop-b-preserved : goal.loop-b-preserved
loop-b-preserved c =
    let a = c.args in
    let l = c.loop-b in
    record {
      few = omega (arith, l.invariant.few, c.block_lookups-t.ensures.start_value.1);
      left = blocks-turn a.part a.ws.now a.used c.head_field-b-end.result l.t.start l.b l.invariant.left _ c.loop-b-test.true c.block_lookups-t.ensures.start_value.0 c.block_lookups-t.ensures.grows;
    }

pub returns : goal.returns
returns c =
    let a = c.args in
    let l = c.loop-b in
    rw c.head_field-b-end.ensures at (blocks_end a.part a.ws.now a.used c.head_field-b-end.result l.t.start l.b l.invariant.left c.loop-b-test.false)
