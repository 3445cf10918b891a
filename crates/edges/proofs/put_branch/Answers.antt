-- A jump and the yes edge; or a jump to a label, the yes edge, the label, and the no edge.
use mathlib.Core.Path.{sym, ◌∙◌}
use Rattle.place.specs.Registers.{registers}
use Rattle.edges.proofs.Emitting.{branch-plain, branch-moves}
use Rattle.edges.proofs.put_branch.Goals as goal

pub returns-then-has_moves : goal.returns-then-has_moves
returns-then-has_moves c =
    let a = c.args in
    branch-moves registers a.vs.ws.now a.vs.map.now a.jump a.label a.next a.e (sym c.has_moves.ensures ∙ c.if-has_moves.true) c.head_field-nowhere.ensures
    c.jump_at.ensures (c.put-jumped.ensures _) (c.put_edge-q.ensures _) (c.bind_label.ensures _ _) (c.put_edge.ensures _)

pub returns-else-has_moves : goal.returns-else-has_moves
returns-else-has_moves c =
    let a = c.args in
    branch-plain registers a.vs.ws.now a.vs.map.now a.jump a.label a.next a.e (sym c.has_moves.ensures ∙ c.if-has_moves.false) c.edge_field-no.ensures
    c.jump_at-else-has_moves.ensures (c.put-jumped-else-has_moves.ensures _) (c.put_edge-else-has_moves.ensures _)
