-- By where the opcode has its pc.
use Rattle.op.specs.Targets.{target_of}
use Rattle.op.proofs.target_of.Goals as goal

pub returns-then-in_bytes : goal.returns-then-in_bytes
unfolding target_of
returns-then-in_bytes c = rw (← c.in_bytes.ensures, c.if-in_bytes.true)

pub returns-else-in_bytes : goal.returns-else-in_bytes
unfolding target_of
returns-else-in_bytes c = rw (← c.in_bytes.ensures, c.if-in_bytes.false)
