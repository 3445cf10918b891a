-- The cases of a destination.
use Rattle.std.proofs.Common.{◌<◌, sym, ◌∙◌, arith, eq-eqb}
use Rattle.walk.proofs.Placed.{maybe_skips, maybe_is}
use Rattle.walk.proofs.maybe_placed.Goals as goal

pub returns-then-d-eq0 : goal.returns-then-d-eq0
returns-then-d-eq0 c = eq-eqb c.args.d 0 c.if-d-eq0.true ∙ sym (maybe_skips c.args.map.now c.args.d c.if-d-eq0.true)

pub returns-else-d-eq0 : goal.returns-else-d-eq0
returns-else-d-eq0 c = let h : 0 < c.args.d = omega (arith, c.if-d-eq0.false) in
    rw c.get_or.ensures (sym (maybe_is c.args.map.now c.args.d h))
