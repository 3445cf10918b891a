-- Each list grew from its used words on.
use mathlib.Core.Path.{refl}
use native.Mathlib.Omega.{arith}
use Prim.Native.Nat.{◌*◌}
use lib.ListN.{length}
use Rattle.lists.proofs.Sizes.{room-lent}
use Rattle.lists.proofs.Kept.{lookups_start, values-start}
use Rattle.lists.proofs.Making.{ended, parts}
use Rattle.lists.proofs.lookup_tables.Goals as goal

pub returns : goal.returns
returns c =
    let a = c.args in
    let p = c.requires in
    let n = a.u.lookups in
    let m = a.u.values in
    parts c.neither.result
    (ended (5 * n) _ c.put_lookup_heads-h.ensures c.end_at.ensures p.lookups (room-lent 5 (length a.lookups.now)) (lookups_start a.ws.now a.lookups.now (5 * n) m))
    (ended (2 * m) _ c.put_lookup_values-v.ensures refl p.values (omega arith) (values-start a.ws.now a.values.now m))
    c.neither.ensures
