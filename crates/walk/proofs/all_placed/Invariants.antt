-- What is left to ask from block b on: each turn passes one block.
use mathlib.Core.Path.{◌≡◌}
use Prim.Native.Nat.{◌-◌}
use Rattle.rows.specs.Rows.{rows_from}
use Rattle.assign.specs.Fits.{rows_placed}
use Rattle.walk.proofs.all_placed.Given as goal

abbrev pub invariant-loop-b : goal.invariant-loop-b
invariant-loop-b l = rows_placed l.map l.ws (rows_from l.ws l.b (l.n - l.b)) ≡ rows_placed l.map l.ws (rows_from l.ws 0 l.n)
