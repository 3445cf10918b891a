-- The table so far holds where each pc below is sent, and `next` is where this one is sent.
use mathlib.Core.Path.{sym}
use native.Mathlib.Omega.{arith}
use borrow.Author.Count.{below_none}
use Rattle.compact.proofs.Sending.{sent_le, sent-zero}
use Rattle.compact.proofs.Turns.{remap-turn, next-turn, remap-end}
use Rattle.compact.proofs.remap.Goals as goal

pub loop-pc-init : goal.loop-pc-init
loop-pc-init c = record { next_is = sym (sent-zero _); has = below_none _ }

pub overflow_add-next : goal.overflow_add-next
overflow_add-next c =
    let s = c.loop-pc in
    omega (arith, s.invariant.next_is, sent_le c.args.ops.now s.pc)

pub loop-pc-preserved : goal.loop-pc-preserved
loop-pc-preserved c =
    let s = c.loop-pc in
    record {
      next_is = next-turn c.args.ops.now s.pc s.next _ c.loop-pc-test.true s.invariant.next_is c.kept-next.ensures.0;
      has = remap-turn c.args.ops.now s.work s.pc s.next (omega arith) s.invariant.next_is s.invariant.has;
    }

pub returns : goal.returns
returns c =
    let s = c.loop-pc in
    remap-end c.args.ops.now s.work s.pc s.next (omega arith) (omega arith) s.invariant.next_is s.invariant.has
