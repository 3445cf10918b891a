-- The moves of the gathered columns, and Jmp unless the target is next.
use Rattle.place.specs.Registers.{registers}
use Rattle.edges.proofs.Emitting.{edge_falls, edge_jumps}
use Rattle.edges.proofs.put_edge.Goals as goal

pub returns-then-target-next : goal.returns-then-target-next
returns-then-target-next c =
    let a = c.args in
    let g = c.gather_edge-n.ensures in
    λ l. edge_falls registers a.vs.ws.now a.vs.map.now a.next a.e _ _ _ g.1 g.2 c.edge_field-target.ensures (c.put_moves-q.ensures l) c.if-target-next.true

pub returns : goal.returns
returns c =
    let a = c.args in
    let g = c.gather_edge-n.ensures in
    λ l. edge_jumps registers a.vs.ws.now a.vs.map.now a.next a.e _ _ _ g.1 g.2 c.edge_field-target.ensures (c.put_moves-q.ensures l) c.if-target-next.false
    c.jmp.ensures (c.put.ensures l)
