-- The first entries are sent on: a turn sends one more.
use mathlib.Core.Path.{◌∙◌}
use native.Mathlib.Omega.{arith}
use Rattle.compact.specs.Steps.{sent_by}
use Rattle.compact.proofs.Turns.{map_next, map_whole}
use Rattle.compact.proofs.resend_targets.Goals as goal

pub loop-t-preserved : goal.loop-t-preserved
loop-t-preserved c =
    let s = c.loop-t in
    let a = c.args in
    map_next (sent_by a.work.now) a.targets.now s.targets s.t-index c.get_or.result (omega arith) s.invariant c.get_or.ensures

pub returns : goal.returns
returns c =
    let s = c.loop-t in
    let a = c.args in
    s.invariant ∙ map_whole (sent_by a.work.now) a.targets.now s.t-index (omega arith)
