-- All blocks, then the root's Ret.
use Rattle.body.proofs.Blocks.{body_as}
use Rattle.body.proofs.put_body.Goals as goal

pub returns : goal.returns
returns c =
    body_as _ _ _ _ c.head_field.ensures c.put_blocks-q.ensures (c.put_root_ret.ensures _)
