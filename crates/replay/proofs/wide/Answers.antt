-- Past the end both words are 0.
use Rattle.replay.specs.Words.{wide_at}
use Rattle.replay.proofs.Past.{wide-past}
use Rattle.replay.proofs.wide.Goals as goal

pub returns-then-bytes-i : goal.returns-then-bytes-i
returns-then-bytes-i c = wide-past _ _ c.if-bytes-i.true

pub returns : goal.returns
unfolding wide_at
returns c = rw (← c.word-low.ensures, ← c.word-high.ensures)
