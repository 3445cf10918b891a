-- The keys from the j-th on, with the least and the greatest rank so far, give those of all.
use Rattle.std.proofs.Common.{arith}
use Rattle.tables.proofs.Ranges.{range_start, range_turn, range_near, range_done}
use Rattle.tables.proofs.key_range.Goals as goal

pub loop-j-init : goal.loop-j-init
loop-j-init c =
    let a = c.args in
    record { fits = omega arith; left = range_start a.ws.now a.step a.first a.n }

pub loop-j-preserved : goal.loop-j-preserved
loop-j-preserved c =
    let a = c.args in
    let l = c.loop-j in
    record {
      fits = omega (arith, c.min-low.ensures, l.invariant.fits);
      left = rw (c.min-low.ensures, c.max-high.ensures, c.rank-key.ensures)
          (range_turn a.ws.now a.step a.first a.n l.low l.high l.j l.invariant.left c.loop-j-test.true);
    }

pub overflow_sub-result : goal.overflow_sub-result
overflow_sub-result c =
    let a = c.args in
    let l = c.loop-j in
    (range_near a.ws.now a.step a.first a.n l.low l.high l.j l.invariant.left c.loop-j-test.false l.invariant.fits c.requires).0

pub returns : goal.returns
returns c =
    let a = c.args in
    let l = c.loop-j in
    range_done a.ws.now a.step a.first a.n l.low l.high l.j l.invariant.left c.loop-j-test.false l.invariant.fits c.requires
