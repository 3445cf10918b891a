-- One that stands again behind itself ends the check, another is passed.
use Rattle.std.proofs.Common.{sym, ◌∙◌}
use Rattle.moves_entry.proofs.Checks.{distinct_turn}
use Rattle.moves_entry.proofs.distinct_ok.Goals as goal

pub returns-then-contains : goal.returns-then-contains
returns-then-contains c =
    sym (c.loop-i.invariant ∙ distinct_turn c.args.ps.now c.loop-i.i _ c.loop-i-test.true c.contains.ensures.value ∙ rw c.if-contains.true)

pub loop-i-preserved : goal.loop-i-preserved
loop-i-preserved c =
    c.loop-i.invariant ∙ distinct_turn c.args.ps.now c.loop-i.i _ c.loop-i-test.true c.contains.ensures.value ∙ rw c.if-contains.false
