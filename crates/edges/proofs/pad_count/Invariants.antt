-- What is counted and what is left to count make up the whole.
use mathlib.Core.Path.{◌≡◌}
use Prim.Native.Nat.{◌+◌, ◌≤◌}
use Rattle.edges.specs.Edges.{pad_count}
use Rattle.edges.proofs.Padding.{count_from}
use Rattle.edges.proofs.pad_count.Given as goal

abbrev pub invariant-loop-i : goal.invariant-loop-i
invariant-loop-i l = (l.count ≤ l.i) × (l.count + count_from l.vs.ws.now l.vs.map.now l.e l.k l.i ≡ pad_count l.vs.ws.now l.vs.map.now l.e l.k)
