-- Its label, its instructions, its terminator.
use Rattle.body.proofs.Blocks.{block_as}
use Rattle.body.proofs.put_block.Goals as goal

pub returns : goal.returns
returns c =
    block_as _ _ _ _ _ c.block_field-first.ensures c.block_field-n.ensures c.next_live-next.ensures (c.bind_label.ensures _ _) (c.put_instrs-q.ensures _)
    (c.put_term.ensures _ _ _)
