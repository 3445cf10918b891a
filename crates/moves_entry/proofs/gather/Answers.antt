-- Each turn takes one move; past the last one the columns are the list's.
use Rattle.std.proofs.Common.{arith, add-one}
use Rattle.moves_entry.proofs.Gathering.{gathered_turn, gathered_end}
use Rattle.moves_entry.proofs.gather.Goals as goal

pub loop-i-preserved : goal.loop-i-preserved
loop-i-preserved c =
    rw (c.with_move-c.ensures, add-one c.loop-i.i) (gathered_turn c.args.list.now c.loop-i.i c.loop-i.c _ (omega arith) c.loop-i.invariant)

pub returns : goal.returns
returns c = gathered_end c.args.list.now c.loop-i.i c.loop-i.c (omega arith) c.loop-i.invariant
