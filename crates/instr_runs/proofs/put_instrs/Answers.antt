-- What the instructions left emit gives the whole.
use native.Mathlib.Omega.{arith}
use Rattle.base.proofs.Pens.{then, left-turn, left_end}
use Rattle.instr_runs.proofs.Lookups.{one_at_most}
use Rattle.instr_runs.proofs.Runs.{instrs_on, instrs_none}
use Rattle.instr_runs.proofs.put_instrs.Goals as goal

pub loop-i-preserved : goal.loop-i-preserved
loop-i-preserved c =
    let v = c.loop-i.invariant in (
      omega (arith, one_at_most _ _ c.lookup_count-t.ensures, v.0),
      omega (arith, c.put_instr-q.auto, v.1),
      omega (arith, c.put_instr-q.auto, v.2),
      λ l. left-turn _ (v.3 l) (then (c.at_span-q.ensures _ _ l) (c.put_instr-q.ensures l))
          (instrs_on _ _ _ _ _ c.loop-i-test.true c.instr_field.ensures c.lookup_count-t.ensures),
    )

pub returns : goal.returns
returns c = λ l. left_end (c.loop-i.invariant.3 l) (instrs_none _ _ _ _ _ c.loop-i-test.false)
