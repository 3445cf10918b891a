-- The registers that stand there and those that are left give them all.
use mathlib.Core.Path.{◌≡◌}
use Prim.Native.Nat.{◌+◌, ◌-◌, ◌≤◌}
use mathlib.Core.List.{◌++◌}
use lib.ListN.{take}
use Rattle.frame.specs.Frames.{regs_from}
use Rattle.frame.proofs.saved_regs.Given as goal

abbrev pub invariant-loop-r : goal.invariant-loop-r
invariant-loop-r l = (l.k + l.initial.r ≡ l.r) × (l.k ≤ l.top)
    × (take l.k l.regs ++ regs_from l.r (l.top - l.r) ≡ regs_from l.initial.r (l.top - l.initial.r))
