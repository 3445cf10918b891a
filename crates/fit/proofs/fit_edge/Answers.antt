-- Arguments and parameters go in pairs.
use Rattle.std.proofs.Common.{sym, ◌∙◌}
use Rattle.fit.proofs.Checks.{args_paired}
use Rattle.fit.proofs.fit_edge.Goals as goal

pub returns : goal.returns
returns c =
    let a = c.args in
    let target = c.edge_at-target in
    let at = c.edge_at-at in
    let n = c.edge_at-n in
    let to = c.block_field-to in
    let m = c.block_field-m in
    λ ds t. rw (at.ensures, to.ensures, c.min.ensures, n.ensures, m.ensures, target.ensures) at (c.fit_args.ensures ds t)
    ∙ sym (args_paired a.ws.now ds a.r _ _ _ _)
