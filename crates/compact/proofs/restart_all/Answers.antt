-- The first starts are sent on: a turn sends one more.
use mathlib.Core.Path.{◌∙◌}
use native.Mathlib.Omega.{arith}
use Rattle.compact.specs.Steps.{restarted_by}
use Rattle.compact.proofs.Turns.{map_next, map_whole}
use Rattle.compact.proofs.restart_all.Goals as goal

pub loop-f-preserved : goal.loop-f-preserved
loop-f-preserved c =
    let s = c.loop-f in
    let a = c.args in
    map_next (restarted_by a.work.now) a.functions.now s.functions s.f-index c.restart.result (omega arith) s.invariant c.restart.ensures

pub returns : goal.returns
returns c =
    let s = c.loop-f in
    let a = c.args in
    s.invariant ∙ map_whole (restarted_by a.work.now) a.functions.now s.f-index (omega arith)
