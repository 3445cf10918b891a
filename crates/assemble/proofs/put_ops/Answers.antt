-- Every label is zero before.
use Rattle.assemble.proofs.Ends.{frame_ready, function_put}
use Rattle.assemble.proofs.put_ops.Goals as goal

pub put_framed-requires-clause-frame_ready : goal.put_framed-requires-clause-frame_ready
put_framed-requires-clause-frame_ready c = frame_ready _ _ _ _ c.fill_from.ensures c.frame_regs-k.ensures.0

pub returns : goal.returns
returns c =
    function_put _ _ _ _ _ _ _ _ _ _ c.head_field.ensures c.frame_regs-k.ensures.1 c.fill_from.ensures c.put_framed.ensures
