-- Each turn places one call.
use Rattle.std.proofs.Common.{◌+◌, ◌-◌, ◌/◌, length, sym, ap, ◌∙◌}
use Rattle.alloc_calls.specs.Placements.{Placed, placed, places}
use Rattle.alloc_calls.proofs.Turns.{places_all, places-turn, places-end}
use Rattle.alloc_calls.proofs.agnulfrosc_place_calls.Goals as goal

pub loop-k-init : goal.loop-k-init
loop-k-init c = let a = c.args in
    record { good = c.new-s.ensures.good; left = places_all a.calls.now a.pool.now _ a.map.now c.new-s.ensures.value }

pub loop-k-preserved : goal.loop-k-preserved
loop-k-preserved c = let a = c.args in
    let l = c.loop-k in
    let calls = a.calls.now in
    let n = length calls / 3 in record {
      good = c.place_one-s.ensures.good_2;
      left = ap (places calls a.pool.now (l.k + 1) (n - (l.k + 1))) c.place_one-s.ensures.map_after
          ∙ sym (places-turn calls a.pool.now l.k n (placed l.s l.map) c.loop-k-test.true)
          ∙ l.invariant.left;
    }

pub returns : goal.returns
returns c = let a = c.args in
    let l = c.loop-k in
    let calls = a.calls.now in
    let e = sym (places-end calls a.pool.now l.k (length calls / 3) (placed l.s l.map) c.loop-k-test.false) ∙ l.invariant.left in
    (ap (λ (p : Placed). p.state.made) e, ap (λ (p : Placed). p.map) e)
