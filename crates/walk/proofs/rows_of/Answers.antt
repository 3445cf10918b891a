-- A dead block has no rows, a live one two more than its instructions.
use mathlib.Core.Path.{sym}
use Rattle.walk.proofs.Rows.{dead-length, live-length}
use Rattle.walk.proofs.rows_of.Goals as goal

pub returns-then-dead-ne0 : goal.returns-then-dead-ne0
returns-then-dead-ne0 c = sym (dead-length c.args.ws.now c.args.b (rw c.block_field-dead.ensures at c.if-dead-ne0.true))

pub returns : goal.returns
returns c = rw c.block_field.ensures (sym (live-length c.args.ws.now c.args.b (rw c.block_field-dead.ensures at c.if-dead-ne0.false)))
