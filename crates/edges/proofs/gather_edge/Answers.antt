-- Arguments and parameters go in pairs, as many as the shorter list has.
use mathlib.Core.Path.{◌∙◌}
use native.Mathlib.Omega.{arith}
use Rattle.edges.proofs.Moved.{edge-from, edge_to}
use Rattle.edges.proofs.gather_edge.Goals as goal

pub returns : goal.returns
returns c =
    let a = c.args in
    let t = c.edge_field-target.ensures in
    let m = rw t at c.block_field-parameters.ensures in
    let n = rw (c.edge_field-arguments.ensures, m) at c.min.ensures in
    let at = c.edge_field-at.ensures in
    let to = rw t at c.block_field-to.ensures in
    let r = c.gather.ensures in (
      omega (arith, r.0, n, c.requires.2),
      r.1 ∙ edge-from a.vs.ws.now a.vs.map.now a.e _ _ _ at to n,
      r.2 ∙ edge_to a.vs.ws.now a.vs.map.now a.e _ _ _ at to n,
    )
