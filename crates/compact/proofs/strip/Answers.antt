-- The first r ops and spans are brought down: a turn brings one more.
use native.Mathlib.Omega.{arith}
use Rattle.compact.proofs.Turns.{stripped_none, stripped_le, stripped_lengths, strip-turn}
use Rattle.compact.proofs.strip.Goals as goal

pub loop-r-init : goal.loop-r-init
loop-r-init c = stripped_none _ _ _

pub bring_down-w-requires : goal.bring_down-w-requires
bring_down-w-requires c =
    let s = c.loop-r.invariant in
    let w = stripped_le s in
    let l = stripped_lengths s in
    (w, omega arith, omega arith)

pub loop-r-preserved : goal.loop-r-preserved
loop-r-preserved c = strip-turn (omega arith) (omega arith) c.loop-r.invariant c.bring_down-w.ensures
