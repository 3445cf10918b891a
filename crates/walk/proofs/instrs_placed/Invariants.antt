-- What is left to ask from j on: each turn passes one row.
use mathlib.Core.Path.{◌≡◌}
use Prim.Native.Nat.{◌+◌, ◌-◌}
use Rattle.rows.specs.Rows.{instr_rows}
use Rattle.assign.specs.Fits.{rows_placed}
use Rattle.walk.proofs.instrs_placed.Given as goal

abbrev pub invariant-loop-j : goal.invariant-loop-j
invariant-loop-j l = rows_placed l.map l.ws (instr_rows (l.first + l.j) (l.n - l.j)) ≡ rows_placed l.map l.ws (instr_rows l.first l.n)
