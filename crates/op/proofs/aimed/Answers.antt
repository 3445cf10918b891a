-- By where the opcode has its pc.
use Rattle.op.specs.Targets.{aimed}
use Rattle.op.proofs.aimed.Goals as goal

pub returns-then-in_bytes : goal.returns-then-in_bytes
unfolding aimed
returns-then-in_bytes c = rw (← c.in_bytes.ensures, c.if-in_bytes.true)

pub returns-else-in_bytes : goal.returns-else-in_bytes
unfolding aimed
returns-else-in_bytes c = rw (← c.in_bytes.ensures, c.if-in_bytes.false)
