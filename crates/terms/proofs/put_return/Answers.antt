-- One law each for Return of nothing and of a value.
use Rattle.terms.proofs.Returns.{return_none, return-some}
use Rattle.terms.proofs.put_return.Goals as goal

pub returns-then-block_field-eq0 : goal.returns-then-block_field-eq0
returns-then-block_field-eq0 c =
    λ l. return_none _ _ _ _ c.block_field.ensures c.if-block_field-eq0.true c.ret.ensures (c.put.ensures l)

pub returns : goal.returns
returns c =
    λ l.
    return-some _ _ _ _ c.block_field.ensures c.if-block_field-eq0.false c.term_place-a.ensures c.operand_reg-x.ensures c.mov.ensures c.ret-2.ensures
    (c.put_fetch-q.ensures l) (c.put-r.ensures l) (c.put-2.ensures l)
