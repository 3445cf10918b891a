-- Each turn takes one step of the run.
use Rattle.std.proofs.Common.{ℕ, ◌+◌, ◌-◌, sym, ap, ◌∙◌}
use Rattle.input.specs.Layout.{list_at}
use Rattle.assign.specs.Steps.{pins}
use Rattle.assign.specs.Walk.{walk, run}
use Rattle.assign.proofs.Runs.{left_all, pins-turn, pins-end}
use Rattle.assign.proofs.pin_list.Goals as goal

pub loop-j-init : goal.loop-j-init
loop-j-init c = let a = c.args in record {
  good = c.requires.good;
  left = λ m. left_all (λ (i k : ℕ). run a.r.ws.now a.r.pool.now (pins a.r.row 0 (list_at a.r.ws.now i k)) (walk a.s a.map.now a.r.wish.now m)) a.at a.n;
}

pub loop-j-preserved : goal.loop-j-preserved
loop-j-preserved c = let a = c.args in
    let l = c.loop-j in
    let ws = a.r.ws.now in
    let pool = a.r.pool.now in record {
      good = c.pin_value-t.ensures.good;
      left = λ m.
          ap (run ws pool (pins a.r.row (l.j + 1) (list_at ws (a.at + (l.j + 1)) (a.n - (l.j + 1))))) (rw c.pool_at-v.ensures at (c.pin_value-t.ensures.by_index m))
          ∙ sym (pins-turn ws pool a.r.row a.at l.j a.n (walk l.t l.map a.r.wish.now m) c.loop-j-test.true)
          ∙ l.invariant.left m;
    }

pub returns : goal.returns
returns c = let a = c.args in
    let l = c.loop-j in record {
      good_2 = l.invariant.good;
      by_index = λ m. sym (pins-end a.r.ws.now a.r.pool.now a.r.row a.at l.j a.n (walk l.t l.map a.r.wish.now m) c.loop-j-test.false) ∙ l.invariant.left m;
    }
