-- Each turn takes the steps of one edge.
use Rattle.std.proofs.Common.{ℕ, ◌+◌, ◌-◌, sym, ap, ◌∙◌}
use Rattle.assign.specs.Steps.{edges_hints}
use Rattle.assign.specs.Walk.{walk, run}
use Rattle.assign.proofs.Runs.{left_all}
use Rattle.hints.proofs.Hints.{edges-turn, edges-end}
use Rattle.hints.proofs.edges_hints.Goals as goal

pub loop-j-init : goal.loop-j-init
loop-j-init c = let a = c.args in
    λ s pool k. left_all (λ (i m : ℕ). run a.ws.now pool (edges_hints a.ws.now a.b i m) (walk s a.map.now a.wish.now k)) a.first a.n

pub loop-j-preserved : goal.loop-j-preserved
loop-j-preserved c = let a = c.args in
    let l = c.loop-j in
    let ws = a.ws.now in
    λ s pool k.
    ap (run ws pool (edges_hints ws a.b (a.first + (l.j + 1)) (a.n - (l.j + 1)))) (c.edge_hints.ensures s pool k)
    ∙ sym (edges-turn ws pool a.b a.first l.j a.n (walk s a.map.now l.wish k) c.loop-j-test.true)
    ∙ l.invariant s pool k

pub returns : goal.returns
returns c = let a = c.args in
    let l = c.loop-j in
    λ s pool k.
    sym (edges-end a.ws.now pool a.b a.first l.j a.n (walk s a.map.now l.wish k) c.loop-j-test.false)
    ∙ l.invariant s pool k
