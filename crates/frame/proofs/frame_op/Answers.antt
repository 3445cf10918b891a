-- One law for each kind of op.
use Rattle.frame.proofs.Leaving.{lowers_ret, lowers_tail, lowers_other}
use Rattle.frame.proofs.frame_op.Goals as goal

pub returns-then-code-eq-RET : goal.returns-then-code-eq-RET
returns-then-code-eq-RET c =
    λ l. lowers_ret _ _ _ _ _ c.requires.2 c.get_or-w.ensures c.unpack-code.ensures _ c.if-code-eq-RET.true
    c.ret_word.ensures c.set.ensures

pub returns-then-code-eq-TAIL : goal.returns-then-code-eq-TAIL
returns-then-code-eq-TAIL c =
    λ l. lowers_tail _ _ _ _ _ c.requires.2 c.get_or-w.ensures c.unpack-code.ensures _ c.requires.0 c.if-code-eq-RET.false
    c.if-code-eq-TAIL.true c.jmp.ensures c.set-then-code-eq-TAIL.ensures (c.put_pops_back-q.ensures l) (c.put.ensures l)

pub returns : goal.returns
returns c =
    λ l. lowers_other _ _ _ _ _ c.requires.2 c.get_or-w.ensures c.unpack-code.ensures
    c.if-code-eq-RET.false c.if-code-eq-TAIL.false
