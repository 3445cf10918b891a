-- One law each for a global, Undefined and what LoadI loads.
use Rattle.lower.proofs.Constants.{const_global, const_none, const_loaded}
use Rattle.lower.proofs.put_const.Goals as goal

pub returns-then-is_global : goal.returns-then-is_global
returns-then-is_global c =
    λ l.
    const_global _ _ _ _ _ c.is_global.ensures c.if-is_global.true c.dest_reg-d.ensures
    c.load_g.ensures (c.put_result.ensures l)

pub returns-then-kind-eq0 : goal.returns-then-kind-eq0
returns-then-kind-eq0 c =
    λ l.
    const_none _ _ _ _ _ c.is_global.ensures c.if-is_global.false c.if-kind-eq0.true
    (c.put_store.ensures l)

pub returns : goal.returns
returns c =
    λ l.
    const_loaded _ _ _ _ _ c.is_global.ensures c.if-is_global.false c.if-kind-eq0.false c.loaded.ensures
    c.dest_reg-d.ensures c.load_i.ensures (c.put_result-2.ensures l)
