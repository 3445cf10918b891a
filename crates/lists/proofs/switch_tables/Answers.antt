-- Each list grew from its used words on; the places are those of the values.
use mathlib.Core.Path.{refl, sym}
use native.Mathlib.Omega.{arith}
use Prim.Native.Nat.{◌*◌}
use lib.ListN.{length, take}
use lib.Seq.{length-take-le}
use Rattle.input.specs.Layout.{values}
use Rattle.lists.proofs.Sizes.{room-lent}
use Rattle.lists.proofs.Kept.{switches_start, targets_start}
use Rattle.lists.proofs.Making.{ended, parts}
use Rattle.lists.proofs.switch_tables.Goals as goal

pub slice_bounds-vs-end : goal.slice_bounds-vs-end
slice_bounds-vs-end c = sym (length-take-le _ _ (omega (arith, c.head_field-n.ensures, c.requires.placed)))

pub returns : goal.returns
returns c =
    let a = c.args in
    let p = c.requires in
    let n = a.u.switches in
    let m = a.u.targets in
    parts c.neither.result
    (ended (3 * n) _ c.put_switch_heads-h.ensures c.end_at.ensures p.switches (room-lent 3 (length a.switches.now)) (switches_start a.ws.now a.switches.now (3 * n) m))
    (ended m _ (rw c.head_field-n.ensures at c.put_switch_targets-t.ensures) refl p.targets (omega arith) (targets_start a.ws.now a.targets.now m (take (values a.ws.now) a.places.now)))
    c.neither.ensures
