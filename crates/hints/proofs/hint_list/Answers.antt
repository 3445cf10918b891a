-- Each turn takes one step of the run.
use Rattle.std.proofs.Common.{◌≡◌, ℕ, ◌+◌, ◌-◌, ◌<◌, ◌≤◌, List, min, sym, ap, ap₂, ◌∙◌, arith}
use Rattle.input.specs.Layout.{list_at}
use Rattle.input.specs.Records.{edge_target, arguments_of, params_of}
use Rattle.assign.specs.Steps.{hints}
use Rattle.assign.specs.Walk.{walk, run}
use Rattle.assign.proofs.Runs.{left_all}
use Rattle.hints.proofs.Hints.{hints-turn, hints-end}
use Rattle.hints.proofs.hint_list.Goals as goal

pub loop-j-init : goal.loop-j-init
loop-j-init c = let a = c.args in
    let ws = a.ws.now in
    λ s pool k.
    ap₂ (λ (x y : List ℕ). run ws pool (hints x y) (walk s a.map.now a.wish.now k)) (left_all (list_at ws) c.edge_field-a.result c.edge_field-n.result) (left_all (list_at ws) c.block_field-p.result c.block_field-m.result)

pub loop-j-preserved : goal.loop-j-preserved
loop-j-preserved c = let a = c.args in
    let l = c.loop-j in
    let ws = a.ws.now in
    let h : l.j < c.edge_field-n.result = omega arith in
    let q : l.j < c.block_field-m.result = omega arith in
    λ s pool k.
    ap (run ws pool (hints (list_at ws (c.edge_field-a.result + (l.j + 1)) (c.edge_field-n.result - (l.j + 1))) (list_at ws (c.block_field-p.result + (l.j + 1)) (c.block_field-m.result - (l.j + 1))))) (rw (c.pool_at.ensures, c.pool_at-in-loop-j.ensures) at (c.hint_one.ensures s k))
    ∙ sym (hints-turn ws pool c.edge_field-a.result c.edge_field-n.result c.block_field-p.result c.block_field-m.result l.j (walk s a.map.now l.wish k) h q)
    ∙ l.invariant s pool k

pub returns : goal.returns
returns c = let a = c.args in
    let l = c.loop-j in
    let ws = a.ws.now in
    let h : min c.edge_field-n.result c.block_field-m.result ≤ l.j = omega arith in
    let x : list_at ws c.edge_field-a.result c.edge_field-n.result ≡ arguments_of ws a.e = ap₂ (list_at ws) c.edge_field-a.ensures c.edge_field-n.ensures in
    let y : list_at ws c.block_field-p.result c.block_field-m.result ≡ params_of ws (edge_target ws a.e) =
    ap₂ (list_at ws) c.block_field-p.ensures c.block_field-m.ensures ∙ ap (params_of ws) c.edge_field-t.ensures in
    λ s pool k.
    sym (hints-end ws pool c.edge_field-a.result c.edge_field-n.result c.block_field-p.result c.block_field-m.result l.j (walk s a.map.now l.wish k) h)
    ∙ l.invariant s pool k
    ∙ ap₂ (λ (u v : List ℕ). run ws pool (hints u v) (walk s a.map.now a.wish.now k)) x y
