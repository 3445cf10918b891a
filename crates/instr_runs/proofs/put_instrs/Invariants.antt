-- What the instructions left emit gives the whole.
use mathlib.Core.Path.{◌≡◌}
use mathlib.Core.List.{List}
use Prim.Native.Nat.{◌+◌, ◌-◌, ◌≤◌}
use Prim.Native.Nat.{ℕ}
use lib.ListN.{length}
use Rattle.base.proofs.Pens.{Left}
use Rattle.place.specs.Registers.{registers}
use Rattle.instrs.specs.Instrs.{instrs_ops}
use Rattle.instrs.specs.Env.{env_of}
use Rattle.instr_runs.proofs.put_instrs.Given as goal

abbrev pub invariant-loop-i : goal.invariant-loop-i
invariant-loop-i v =
    (v.first + v.t ≤ v.table + v.i) × (length v.ops ≡ length v.initial.ops) × (length v.spans ≡ length v.initial.spans)
    × ((l : List ℕ) → Left (instrs_ops registers (env_of v.s) v.t v.i (v.first + v.n - v.i)) (instrs_ops registers (env_of v.s) v.table v.first v.n)
    v.initial.ops v.initial.spans l v.initial.q v.ops v.spans l v.q)
