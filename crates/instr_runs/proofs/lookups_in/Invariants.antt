-- The lookups before instruction j and those of the rest are the whole.
use mathlib.Core.Path.{◌≡◌}
use Prim.Native.Nat.{◌+◌, ◌-◌, ◌≤◌}
use Rattle.instrs.specs.Instrs.{lookups_in}
use Rattle.instr_runs.proofs.lookups_in.Given as goal

abbrev pub invariant-loop-j : goal.invariant-loop-j
invariant-loop-j l = (l.i + l.n ≤ l.j) × (l.n + lookups_in l.ws l.j (l.i + l.k - l.j) ≡ lookups_in l.ws l.i l.k)
