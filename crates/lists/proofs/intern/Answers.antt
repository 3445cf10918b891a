-- Each list grew from its used words on.
use Prim.Native.Nat.{◌*◌}
use lib.ListN.{length}
use Rattle.lists.proofs.Sizes.{room-lent}
use Rattle.lists.proofs.Kept.{globals_start, builtins_start}
use Rattle.lists.proofs.Making.{ended, parts}
use Rattle.lists.proofs.intern.Goals as goal

pub returns : goal.returns
returns c =
    let a = c.args in
    let p = c.requires in
    let n = a.u.globals in
    let m = a.u.builtins in
    parts c.neither.result
    (ended (2 * n) _ c.intern_globals-g.ensures c.end_at.ensures p.globals (room-lent 2 (length a.globals.now)) (globals_start a.ws.now a.globals.now (2 * n)))
    (ended m _ c.intern_builtins-b.ensures c.end_at-2.ensures p.builtins (room-lent 1 (length a.builtins.now)) (builtins_start a.ws.now a.builtins.now m))
    c.neither.ensures
