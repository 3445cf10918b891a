-- The subject is there, then the op and the edges.
use Rattle.terms.proofs.Terms.{switch_as}
use Rattle.terms.proofs.put_switch.Goals as goal

pub returns : goal.returns
returns c =
    switch_as _ _ _ _ _ _ _ c.block_field-e.ensures c.block_field-cases.ensures c.term_place-a.ensures c.operand_reg-x.ensures c.switch.ensures
    (c.put_fetch-q.ensures _) (c.put-r.ensures _) c.put_switch_edges.ensures
