-- What is emitted and the pads that are left make up the whole: a label and an edge for a case with moves, nothing for one without.
use Prim.Native.Nat.{◌+◌, ◌≤◌}
use Rattle.base.proofs.Pens.{Left}
use Rattle.place.specs.Registers.{registers}
use Rattle.edges.specs.Edges.{pads}
use Rattle.edges.proofs.Padding.{pads_from}
use Rattle.edges.proofs.put_pads.Given as goal

abbrev pub invariant-loop-i : goal.invariant-loop-i
invariant-loop-i l =
    (l.pad ≤ l.label + l.i)
    × Left (pads_from l.vs.ws.now l.vs.map.now l.e registers l.k l.pad l.i) (pads registers l.vs.ws.now l.vs.map.now l.label l.e l.k) l.initial.ops l.initial.spans l.initial.labels l.initial.q l.ops l.spans l.labels l.q
