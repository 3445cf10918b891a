-- The blocks from b on are left.
use Rattle.interning.specs.Asked.{asked_by, rows_by}
use Rattle.interning.proofs.Passes.{blocks_start, blocks-turn, blocks_end}
use Rattle.interning.proofs.Interned.{constants_in_turn}
use Rattle.interning.proofs.intern_pass.Goals as goal

pub loop-b-init : goal.loop-b-init
loop-b-init c =
    let a = c.args in
    blocks_start (constants_in_turn (asked_by a.asked) a.ws.now) (rows_by a.asked a.ws.now) a.ws.now c.head_field-b-end.result _ _

pub intern_block-f-requires : goal.intern_block-f-requires
intern_block-f-requires c = λ live. c.requires _ (record { there = rw c.head_field-b-end.ensures at c.loop-b-test.true; is = live })

pub loop-b-preserved : goal.loop-b-preserved
loop-b-preserved c =
    let a = c.args in
    blocks-turn (constants_in_turn (asked_by a.asked) a.ws.now) (rows_by a.asked a.ws.now) a.ws.now c.head_field-b-end.result c.loop-b.b c.loop-b-test.true c.loop-b.invariant c.intern_block-f.ensures

pub returns : goal.returns
returns c =
    let a = c.args in
    rw c.head_field-b-end.ensures at
    (blocks_end (constants_in_turn (asked_by a.asked) a.ws.now) (rows_by a.asked a.ws.now) a.ws.now c.head_field-b-end.result c.loop-b.b c.loop-b-test.false c.loop-b.invariant)
