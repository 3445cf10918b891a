-- A law for a jump and one for another op.
use Rattle.frame.proofs.Resolving.{word-jump, word_other}
use Rattle.frame.proofs.resolved_word.Goals as goal

pub returns-then-is_jump : goal.returns-then-is_jump
returns-then-is_jump c =
    word-jump _ _ _ _ c.unpack-o.ensures c.is_jump.ensures _ _ _ _ c.if-is_jump.true c.target_of.ensures
    c.get_or-pc.ensures c.aimed.ensures c.pack.ensures

pub returns : goal.returns
returns c = word_other _ _ _ _ c.unpack-o.ensures c.is_jump.ensures c.if-is_jump.false
