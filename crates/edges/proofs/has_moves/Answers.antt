-- Arguments and parameters go in pairs, as many as the shorter list has.
use mathlib.Core.Path.{◌∙◌}
use Rattle.edges.proofs.Moved.{edge-some}
use Rattle.edges.proofs.has_moves.Goals as goal

pub returns : goal.returns
returns c =
    let a = c.args in
    let t = c.edge_field-target.ensures in
    let n = rw (c.edge_field-arguments.ensures, c.block_field-parameters.ensures, t) at c.min.ensures in
    c.any_moved.ensures ∙ edge-some a.vs.ws.now a.vs.map.now a.e _ _ _ c.edge_field-at.ensures (rw t at c.block_field-to.ensures) n
