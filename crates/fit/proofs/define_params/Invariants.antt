-- What is left to define, over the table as it is, gives the whole: a turn defines one, or stops at it.
use Rattle.std.proofs.Common.{◌≡◌, ◌+◌, ◌-◌, true, length}
use Rattle.input.specs.Layout.{list_at}
use Rattle.rows.specs.Rows.{refs}
use Rattle.fit.specs.Tabled.{marks, marked}
use Rattle.fit.proofs.define_params.Given as goal

abbrev pub invariant-loop-j : goal.invariant-loop-j
invariant-loop-j l =
    (length l.table ≡ length l.initial.table)
    × (marked (refs l.r (list_at l.ws (l.at + l.j) (l.n - l.j))) (marks l.table true) ≡ marked (refs l.r (list_at l.ws l.at l.n)) (marks l.initial.table true))
