-- What is left to ask from j on: each turn passes one value.
use mathlib.Core.Path.{◌≡◌}
use Prim.Native.Nat.{◌+◌, ◌-◌}
use Rattle.input.specs.Layout.{list_at}
use Rattle.rows.specs.Rows.{refs}
use Rattle.assign.specs.Walk.{all_placed}
use Rattle.walk.proofs.list_placed.Given as goal

abbrev pub invariant-loop-j : goal.invariant-loop-j
invariant-loop-j l = all_placed l.map (refs 0 (list_at l.ws (l.at + l.j) (l.n - l.j))) ≡ all_placed l.map (refs 0 (list_at l.ws l.at l.n))
