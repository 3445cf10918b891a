-- One law for each number of registers, over what `put` ensures of the op.
use Rattle.std.proofs.Common.{arith}
use Rattle.base.proofs.Pens.{lowers_none, renamed}
use Rattle.packs.proofs.Packs.{pop_none, pop_one, pop_two, pop_three}
use Rattle.packs.proofs.put_pop_back.Goals as goal

pub returns-in-empty : goal.returns-in-empty
returns-in-empty c = λ l. renamed (lowers_none _ _ l _) (pop_none c.args.regs.now (omega arith))

pub returns-in-len1 : goal.returns-in-len1
returns-in-len1 c = λ l. renamed (c.put.ensures l) (pop_one c.args.regs.now _ (omega arith) c.pop.ensures)

pub returns-in-len2 : goal.returns-in-len2
returns-in-len2 c = λ l. renamed (c.put-in-len2.ensures l) (pop_two c.args.regs.now _ (omega arith) c.pop2.ensures)

pub returns-in-len3-up : goal.returns-in-len3-up
returns-in-len3-up c = λ l. renamed (c.put-in-len3-up.ensures l) (pop_three c.args.regs.now _ (omega arith) c.pop3.ensures)
