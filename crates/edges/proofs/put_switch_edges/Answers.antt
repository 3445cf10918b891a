-- The default edge, then the pads.
use Rattle.place.specs.Registers.{registers}
use Rattle.edges.proofs.Padding.{switch_edges_lem}
use Rattle.edges.proofs.put_switch_edges.Goals as goal

pub returns : goal.returns
returns c =
    let a = c.args in
    switch_edges_lem registers a.vs.ws.now a.vs.map.now a.label a.next a.e a.cases c.next_block-after.ensures (c.put_edge-q.ensures _) c.put_pads.ensures
