-- What stands in the columns and the moves of the pairs from j on make up the whole.
use native.Mathlib.Omega.{arith}
use Rattle.fit.proofs.Counts.{counted-turn, counted-end}
use Rattle.edges.proofs.Columns.{toward_turn, toward_end}
use Rattle.edges.proofs.Moved.{from-counted, to_counted}
use Rattle.edges.proofs.gather.Goals as goal

pub loop-j-preserved : goal.loop-j-preserved
loop-j-preserved c =
    let a = c.args in
    let l = c.loop-j in
    let v = l.invariant in
    let h = c.loop-j-test.true in
    let x = c.pool_at-a.ensures in
    let y = c.pool_at-p.ensures in
    let r = c.add_argument-m in (
      omega (arith, v.0, r.ensures.0),
      toward_turn _ _ _ _ v.1 (counted-turn (from-counted a.vs.ws.now a.vs.map.now a.at a.to) a.n l.j h) (rw (x, y) at r.ensures.1),
      toward_turn _ _ _ _ v.2 (counted-turn (to_counted a.vs.ws.now a.vs.map.now a.at a.to) a.n l.j h) (rw (x, y) at r.ensures.2),
    )

pub returns : goal.returns
returns c =
    let a = c.args in
    let l = c.loop-j in
    let v = l.invariant in
    let h = c.loop-j-test.false in (
      omega arith,
      toward_end v.1 (counted-end (from-counted a.vs.ws.now a.vs.map.now a.at a.to) a.n l.j h),
      toward_end v.2 (counted-end (to_counted a.vs.ws.now a.vs.map.now a.at a.to) a.n l.j h),
    )
