-- Judging a function: the lowest number from 1 to 7 that applies, 0 for none, on a machine with n registers.
use Rattle.std.specs.Prelude.{ℕ, List, Result}
use Rattle.base.specs.Choice.{pick}
use Rattle.refusal.specs.declared.Refusal.{Refusal}
use Rattle.refusal.specs.Numbers.{number_for}
use Rattle.input.specs.Forms.{words_ok}
use Rattle.shape.specs.Counts.{counts_ok}
use Rattle.shape.specs.Shape.{shape_ok}
use Rattle.fit.specs.Intervals.{once_ok, intervals_ok}
use Rattle.fit.specs.Callees.{callees_ok}
use Rattle.fit.specs.Keys.{keyed_ok}

-- document 01's number of a verdict, 0 for none
abbrev pub verdict_number : Result Unit Refusal → ℕ
verdict_number v = number_for v

unfoldable pub unfit : ℕ → List ℕ → List ℕ → ℕ
unfit n ws functions =
    pick (words_ok ws)
    (pick (counts_ok n ws)
    (pick (shape_ok ws)
    (pick (once_ok ws)
    (pick (intervals_ok ws)
    (pick (callees_ok ws functions)
    (pick (keyed_ok ws)
    0
    7)
    6)
    5)
    4)
    3)
    2)
    1
