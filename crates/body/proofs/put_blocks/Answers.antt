-- What the blocks left emit gives the whole; the tally stays small.
use mathlib.Core.Path.{refl}
use native.Mathlib.Omega.{arith}
use Rattle.base.proofs.Pens.{lowers_none, left-turn, left_end}
use Rattle.body.proofs.Blocks.{live_at, blocks-live, blocks-dead, blocks_none, tally_low, tallied-dead, tallied-live}
use Rattle.body.proofs.put_blocks.Goals as goal

pub loop-b-preserved-then-block_field-ne0 : goal.loop-b-preserved-then-block_field-ne0
loop-b-preserved-then-block_field-ne0 c =
    let v = c.loop-b.invariant in (
      tallied-dead v.0,
      v.1,
      v.2,
      v.3,
      left-turn _ v.4 (lowers_none _ _ _ _) (blocks-dead _ _ _ _ _ c.block_field.ensures c.loop-b-test.true c.if-block_field-ne0.true),
    )

pub put_block-p-requires-clause-live : goal.put_block-p-requires-clause-live
put_block-p-requires-clause-live c =
    let live = live_at _ _ c.head_field-n.ensures c.loop-b-test.true c.block_field.ensures c.if-block_field-ne0.false in
    let r = c.requires.ready.0 in
    let low = tally_low _ _ r live c.loop-b.invariant.0 in
    (live, omega (arith, r.few_blocks, c.head_field-n.ensures, c.loop-b-test.true), low.1, low.2)

pub tally_after-t-requires : goal.tally_after-t-requires
tally_after-t-requires c =
    let live = live_at _ _ c.head_field-n.ensures c.loop-b-test.true c.block_field.ensures c.if-block_field-ne0.false in
    let r = c.requires.ready.0 in
    let low = tally_low _ _ r live c.loop-b.invariant.0 in
    (r, live, low.0, low.1, low.2)

pub loop-b-preserved : goal.loop-b-preserved
loop-b-preserved c =
    let v = c.loop-b.invariant in
    let live = live_at _ _ c.head_field-n.ensures c.loop-b-test.true c.block_field.ensures c.if-block_field-ne0.false in (
      tallied-live _ _ _ c.requires.ready.0 live c.tally_after-t.ensures v.0,
      omega (arith, c.put_block-p.auto, v.1),
      omega (arith, c.put_block-p.auto, v.2),
      omega (arith, c.put_block-p.auto, v.3),
      left-turn _ v.4 c.put_block-p.ensures (blocks-live _ _ _ _ _ c.block_field.ensures c.loop-b-test.true c.if-block_field-ne0.false refl c.tally_after-t.ensures),
    )

pub returns : goal.returns
returns c = left_end c.loop-b.invariant.4 (blocks_none _ _ _ _ _ c.loop-b-test.false)
