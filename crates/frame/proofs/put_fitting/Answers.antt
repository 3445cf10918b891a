-- What is left of the body's ops gives the frame, and the pen, which has room for all of it, is never full.
use mathlib.Core.List.{[]}
use native.Mathlib.Omega.{arith}
use Rattle.base.proofs.Pens.{left-start, left_end}
use Rattle.frame.proofs.Leaving.{left-frame, frame-end, epilogue-behind, op-behind, fitting, lowers_left}
use Rattle.frame.proofs.put_fitting.Goals as goal

pub loop-pc-init : goal.loop-pc-init
loop-pc-init c =
    let pre = c.requires in (
      epilogue-behind pre.0 (omega (arith, pre.5)) pre.1 pre.2 c.args.regs.now c.args.span (c.put_epilogue-q.ensures []),
      λ l. left-start _ _ _ l _,
    )

pub frame_op-q-requires : goal.frame_op-q-requires
frame_op-q-requires c =
    let pre = c.requires in
    let v = c.loop-pc.invariant in
    let f = fitting _ _ _ _ pre.0 pre.1 pre.2 pre.4 pre.5 (c.put_epilogue-q.ensures []) (v.1 []) in
    (f.0, omega (arith, f.1, f.2, pre.3), omega (arith, v.0), c.loop-pc-test.true, omega (arith, pre.3, pre.5))

pub loop-pc-preserved : goal.loop-pc-preserved
loop-pc-preserved c =
    let v = c.loop-pc.invariant in
    let pre = c.requires in
    let f = fitting _ _ _ _ pre.0 pre.1 pre.2 pre.4 pre.5 (c.put_epilogue-q.ensures []) (v.1 []) in (
      omega (arith, v.0, op-behind f.0 f.1 (omega (arith, f.2, pre.1)) (omega (arith, f.2, pre.2)) _ _ _ (c.frame_op-q.ensures [])),
      λ l. left-frame _ _ _ c.loop-pc-test.true (v.1 l) (c.frame_op-q.ensures l),
    )

pub returns : goal.returns
returns c =
    λ l. lowers_left _ _ _ c.requires.0 (c.put_epilogue-q.ensures l)
    (left_end (c.loop-pc.invariant.1 l) (frame-end _ _ _ c.loop-pc-test.false))
