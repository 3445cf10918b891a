-- The test and the word are those that the callees ensure. Assumes nothing.
use Rattle.op.specs.Words.{encoded}
use Rattle.op.proofs.encode.Goals as goal

pub returns-then-allows : goal.returns-then-allows
unfolding encoded
returns-then-allows c = (
  rw (← c.pack.ensures, ← c.allows.ensures, c.if-allows.true),
  rw (← c.allows.ensures, c.if-allows.true),
)

pub returns-else-allows : goal.returns-else-allows
unfolding encoded
returns-else-allows c =
    (rw (← c.allows.ensures, c.if-allows.false), rw (← c.allows.ensures, c.if-allows.false))
