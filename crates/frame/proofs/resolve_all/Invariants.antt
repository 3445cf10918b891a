-- What is left to resolve gives the whole: one law each for the start, a turn and the end.
use Prim.Native.Nat.{ℕ, ◌-◌}
use mathlib.Core.List.{List}
use Rattle.base.proofs.Pens.{Left}
use Rattle.frame.specs.Frames.{resolve, resolve_all}
use Rattle.frame.proofs.resolve_all.Given as goal

abbrev pub invariant-loop-pc : goal.invariant-loop-pc
invariant-loop-pc l =
    (s : List ℕ) → Left (resolve l.pc (l.fn.p.at - l.pc)) (resolve_all l.from) l.initial.ops s l.labels l.fn.p l.ops s l.labels l.fn.p
