-- The law of the sum over blocks; with fewer than 2 ^ 32 blocks it fits 64 bits.
use Rattle.input.specs.Layout.{blocks}
use Rattle.shape.specs.Counts.{row_count}
use Rattle.shape.proofs.Loops.{Rows}
use Rattle.shape.proofs.row_count.Given as goal

abbrev pub invariant-loop-b : goal.invariant-loop-b
invariant-loop-b l = Rows l.ws l.b l.b-end l.rows (row_count l.ws 0 (blocks l.ws))
