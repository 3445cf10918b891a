-- What is left of the body's ops gives the frame, and the pen, which has room for all of it, is never full.
use Prim.Native.Nat.{ℕ, ◌-◌, ◌≤◌}
use mathlib.Core.List.{List}
use Rattle.base.proofs.Pens.{Left}
use Rattle.frame.specs.Frames.{frame_ops}
use Rattle.frame.proofs.put_fitting.Given as goal

abbrev pub invariant-loop-pc : goal.invariant-loop-pc
invariant-loop-pc v = (v.end ≤ v.q.at)
    × ((l : List ℕ) → Left (frame_ops v.regs v.end v.pc (v.end - v.pc)) (frame_ops v.regs v.end v.from (v.end - v.from)) v.initial.ops v.initial.spans l v.initial.q v.ops v.spans l v.q)
