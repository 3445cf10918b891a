-- What stands in the column and the registers of the mask from r on make up the whole.
use Prim.Native.Nat.{◌-◌, ◌≤◌}
use Rattle.edges.proofs.Columns.{Toward}
use Rattle.calls.specs.Calls.{masked_from}
use Rattle.calls.proofs.pushes_of.Given as goal

abbrev pub invariant-loop-r : goal.invariant-loop-r
invariant-loop-r l = (l.k ≤ l.r) × Toward (masked_from l.mask l.r (l.limit - l.r)) (masked_from l.mask 0 l.limit) l.regs l.k
