-- The invariant: what is left to define, over the table as it is, gives the whole.
use mathlib.Core.Bool.{true}
use mathlib.Core.Path.{◌≡◌}
use Prim.Native.Nat.{◌+◌, ◌-◌}
use lib.ListN.{length}
use Rattle.rows.specs.Rows.{instr_rows, over_rows, row_defs}
use Rattle.fit.specs.Tabled.{marks, marked}
use Rattle.judge.proofs.define_instrs.Given as goal

abbrev pub invariant-loop-j : goal.invariant-loop-j
invariant-loop-j l = (length l.table ≡ length l.initial.table)
    × (marked (over_rows (row_defs l.ws) (l.r + l.j) (instr_rows (l.first + l.j) (l.n - l.j))) (marks l.table true) ≡ marked (over_rows (row_defs l.ws) l.r (instr_rows l.first l.n)) (marks l.initial.table true))
