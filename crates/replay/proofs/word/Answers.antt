-- The test that led here, and the four bytes.
use borrow.Author.Tests.{lt-ltb}
use Rattle.replay.specs.Words.{word_at}
use Rattle.replay.proofs.Past.{word-past}
use Rattle.replay.proofs.word.Goals as goal

pub returns-then-bytes-i : goal.returns-then-bytes-i
returns-then-bytes-i c = word-past _ _ c.if-bytes-i.true

pub returns : goal.returns
unfolding word_at
returns c = rw (lt-ltb _ _ c.if-bytes-i.false, c.byte.ensures.0, c.byte-2.ensures.0, c.byte-3.ensures.0, c.byte-4.ensures.0)
