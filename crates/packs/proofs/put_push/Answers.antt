-- One law for each number of registers, over what `put` ensures of the op.
use Rattle.std.proofs.Common.{arith}
use Rattle.base.proofs.Pens.{lowers_none, renamed}
use Rattle.packs.proofs.Packs.{push_none, push_one, push_two, push_three}
use Rattle.packs.proofs.put_push.Goals as goal

pub returns-in-empty : goal.returns-in-empty
returns-in-empty c = λ l. renamed (lowers_none _ _ l _) (push_none c.args.regs.now (omega arith))

pub returns-in-len1 : goal.returns-in-len1
returns-in-len1 c = λ l. renamed (c.put.ensures l) (push_one c.args.regs.now _ (omega arith) c.push.ensures)

pub returns-in-len2 : goal.returns-in-len2
returns-in-len2 c = λ l. renamed (c.put-in-len2.ensures l) (push_two c.args.regs.now _ (omega arith) c.push2.ensures)

pub returns-in-len3-up : goal.returns-in-len3-up
returns-in-len3-up c = λ l. renamed (c.put-in-len3-up.ensures l) (push_three c.args.regs.now _ (omega arith) c.push3.ensures)
