-- What stands in the columns and the moves of the arguments from j on make up the whole.
use native.Mathlib.Omega.{arith}
use Rattle.fit.proofs.Counts.{counted-turn, counted-end}
use Rattle.edges.proofs.Columns.{toward_turn, toward_end}
use Rattle.calls.proofs.Shuffling.{from-counted, to_counted}
use Rattle.calls.proofs.gather_arguments.Goals as goal

pub loop-j-preserved : goal.loop-j-preserved
loop-j-preserved c =
    let a = c.args in
    let l = c.loop-j in
    let v = l.invariant in
    let h = c.loop-j-test.true in
    let s = rw (c.place_at-place.ensures, c.pool_at.ensures) at c.raised_by-s.ensures in
    let r = c.add_pair-m in (
      omega (arith, v.0, r.ensures.0),
      toward_turn _ _ _ _ v.1 (counted-turn (from-counted a.a.vs.ws.now a.a.vs.map.now a.pushes a.a.at) a.a.count l.j h) (rw s at r.ensures.1),
      toward_turn _ _ _ _ v.2 (counted-turn (to_counted a.a.vs.ws.now a.a.vs.map.now a.pushes a.a.at) a.a.count l.j h) (rw s at r.ensures.2),
    )

pub returns : goal.returns
returns c =
    let a = c.args in
    let l = c.loop-j in
    let v = l.invariant in
    let h = c.loop-j-test.false in (
      omega arith,
      toward_end v.1 (counted-end (from-counted a.a.vs.ws.now a.a.vs.map.now a.pushes a.a.at) a.a.count l.j h),
      toward_end v.2 (counted-end (to_counted a.a.vs.ws.now a.a.vs.map.now a.pushes a.a.at) a.a.count l.j h),
    )
