-- The test and the parts are those that the callees ensure. Assumes nothing.
use Rattle.op.specs.Words.{decoded}
use Rattle.op.proofs.decode.Goals as goal

pub returns-then-allows : goal.returns-then-allows
unfolding decoded
returns-then-allows c = (
  rw (← c.unpack-o.ensures, ← c.allows.ensures, c.if-allows.true),
  rw (← c.unpack-o.ensures, ← c.allows.ensures, c.if-allows.true),
)

pub returns-else-allows : goal.returns-else-allows
unfolding decoded
returns-else-allows c = (
  rw (← c.unpack-o.ensures, ← c.allows.ensures, c.if-allows.false),
  rw (← c.unpack-o.ensures, ← c.allows.ensures, c.if-allows.false),
)
