-- What is left of the rows from j on: each turn takes the steps of one.
use mathlib.Core.Path.{sym, ap, ◌∙◌}
use Prim.Native.Nat.{◌+◌, ◌-◌}
use Rattle.rows.specs.Rows.{instr_rows}
use Rattle.assign.specs.Walk.{walk}
use Rattle.assign.specs.Fits.{run_rows}
use Rattle.walk.proofs.Rows.{instrs_all, instrs_turn, instrs_end}
use Rattle.walk.proofs.instr_list.Goals as goal

pub loop-j-init : goal.loop-j-init
loop-j-init c = let a = c.args in record {
  good = c.requires.good;
  left = instrs_all a.r.ws.now a.r.pool.now a.r.row a.first a.n (walk a.s a.map.now a.r.wish.now a.noted.now);
}

pub loop-j-preserved : goal.loop-j-preserved
loop-j-preserved c = let a = c.args in
    let l = c.loop-j in
    let ws = a.r.ws.now in
    let pool = a.r.pool.now in record {
      good = c.one_instr-t.ensures.good;
      left = ap (run_rows ws pool (a.r.row + (l.j + 1)) (instr_rows (a.first + (l.j + 1)) (a.n - (l.j + 1)))) c.one_instr-t.ensures.noted_after
          ∙ sym (instrs_turn ws pool a.r.row a.first l.j a.n (walk l.t l.map a.r.wish.now l.noted) c.loop-j-test.true)
          ∙ l.invariant.left;
    }

pub returns : goal.returns
returns c = let a = c.args in
    let l = c.loop-j in record {
      good_2 = l.invariant.good;
      noted_after = sym (instrs_end a.r.ws.now a.r.pool.now a.r.row a.first l.j a.n (walk l.t l.map a.r.wish.now l.noted) c.loop-j-test.false)
          ∙ l.invariant.left;
    }
