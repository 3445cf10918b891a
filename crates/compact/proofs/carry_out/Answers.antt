-- What the steps leave is the outcome.
use Rattle.compact.proofs.Ends.{ends-done}
use Rattle.compact.proofs.carry_out.Goals as goal

pub returns : goal.returns
returns c =
    ends-done _ _ _ _ _ _ _ _ _ _ _ _ _ _
    c.requires
    c.remap.auto.work
    c.remap.ensures
    c.strip-left.ensures
    c.resend_targets.ensures
    c.restart_all.ensures
    c.fill_from.ensures
