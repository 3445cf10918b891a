-- Past the end of the file there is 0.
use native.Mathlib.Omega.{arith}
use Rattle.replay.proofs.Past.{word-past}
use Rattle.replay.proofs.word_in.Goals as goal

pub returns-then-words-at : goal.returns-then-words-at
returns-then-words-at c = word-past _ _ (omega arith)

pub returns-then-words-i : goal.returns-then-words-i
returns-then-words-i c = word-past _ _ (omega arith)
