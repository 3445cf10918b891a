-- The lookups before instruction j and those of the rest are the whole.
use native.Mathlib.Omega.{arith}
use Rattle.instr_runs.proofs.Lookups.{one_at_most, lookups_on, lookups_none}
use Rattle.instr_runs.proofs.lookups_in.Goals as goal

pub loop-j-preserved : goal.loop-j-preserved
loop-j-preserved c =
    let v = c.loop-j.invariant in
    (omega (arith, one_at_most _ _ c.lookup_count-n.ensures, v.0), lookups_on _ _ _ _ v.1 c.lookup_count-n.ensures c.loop-j-test.true)

pub returns : goal.returns
returns c = (lookups_none _ _ _ _ c.loop-j.invariant.1 c.loop-j-test.false, omega (arith, c.loop-j.invariant.0, c.loop-j.auto.j-end))
