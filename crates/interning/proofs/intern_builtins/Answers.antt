-- The blocks from b on are left.
use Rattle.interning.specs.Interning.{row_builtins, builtins_after}
use Rattle.interning.proofs.Passes.{blocks_start, blocks-turn, blocks_end}
use Rattle.interning.proofs.Interned.{builtins_in_turn}
use Rattle.interning.proofs.intern_builtins.Goals as goal

pub loop-b-init : goal.loop-b-init
loop-b-init c =
    let a = c.args in
    blocks_start builtins_in_turn (row_builtins a.ws.now) a.ws.now c.head_field-b-end.result _ _

pub block_builtins-f-requires : goal.block_builtins-f-requires
block_builtins-f-requires c = λ live. c.requires.instrs _ (record { there = rw c.head_field-b-end.ensures at c.loop-b-test.true; is = live })

pub loop-b-preserved : goal.loop-b-preserved
loop-b-preserved c =
    let a = c.args in
    blocks-turn builtins_in_turn (row_builtins a.ws.now) a.ws.now c.head_field-b-end.result c.loop-b.b c.loop-b-test.true c.loop-b.invariant c.block_builtins-f.ensures

pub returns : goal.returns
unfolding builtins_after
returns c =
    let a = c.args in
    rw c.head_field-b-end.ensures at
    (blocks_end builtins_in_turn (row_builtins a.ws.now) a.ws.now c.head_field-b-end.result c.loop-b.b c.loop-b-test.false c.loop-b.invariant)
