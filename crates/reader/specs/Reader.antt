-- Reading words one by one: what stands at a position.
use Rattle.std.specs.Prelude.{ℕ, List, ltb, length, get_or, Option, Some, None}
use Rattle.base.specs.Choice.{pick}

-- the word, or the end
abbrev pub step_at : List ℕ → ℕ → Option ℕ
step_at ws at = pick (ltb at (length ws)) (Some (get_or ws at 0)) None

-- document 01's number of each answer: 0 Done, 1 BadWord, since the input is cut short
abbrev pub step_number : Option ℕ → ℕ
step_number (Some w) = 0
step_number None = 1

-- the word of each answer, 0 at the end
abbrev pub step_word : Option ℕ → ℕ
step_word (Some w) = w
step_word None = 0
