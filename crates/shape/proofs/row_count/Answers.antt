-- The law of the sum over blocks; with fewer than 2 ^ 32 blocks it fits 64 bits.
use native.Mathlib.Omega.{arith}
use Rattle.shape.proofs.Loops.{rows_start, rows-turn, rows-done}
use Rattle.shape.proofs.row_count.Goals as goal

pub loop-b-init : goal.loop-b-init
loop-b-init c = rows_start _ c.head_field-b-end.ensures

pub overflow_add-rows : goal.overflow_add-rows
overflow_add-rows c = omega (arith, c.block_rows-rows.ensures.1, c.loop-b.invariant.few)

pub loop-b-preserved : goal.loop-b-preserved
loop-b-preserved c = rows-turn c.loop-b.invariant c.loop-b-test.true c.block_rows-rows.ensures.0 c.block_rows-rows.ensures.1

pub returns : goal.returns
returns c = rows-done c.loop-b.invariant c.loop-b-test.false
