-- What each check asks of the row is the definition's.
use Rattle.std.proofs.Common.{rules}
use Rattle.judge.specs.Passes.{row_ok}
use Rattle.judge.proofs.instr_pass.Goals as goal

pub returns-in-Shape : goal.returns-in-Shape
unfolding row_ok
returns-in-Shape c = search rules

pub returns-in-Interval : goal.returns-in-Interval
unfolding row_ok
returns-in-Interval c = search rules

pub returns-in-Callee : goal.returns-in-Callee
unfolding row_ok
returns-in-Callee c = λ ds t. rw c.in-Callee.is (c.callee_instr.ensures c.args.r)

pub returns-in-Keys : goal.returns-in-Keys
unfolding row_ok
returns-in-Keys c = λ ds t. rw c.in-Keys.is (c.keys_instr.ensures c.args.r)
