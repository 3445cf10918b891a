-- An edge to a block at or before this one has no steps, any other those of its arguments.
use mathlib.Core.Path.{sym, ◌∙◌}
use native.Mathlib.Omega.{arith}
use Prim.Native.Nat.{◌<◌, ◌≤◌}
use Rattle.input.specs.Records.{edge_target}
use Rattle.assign.specs.Walk.{walk}
use Rattle.hints.proofs.Hints.{edge_low, edge_high}
use Rattle.hints.proofs.edge_hints.Goals as goal

pub returns-then-edge_field-b : goal.returns-then-edge_field-b
returns-then-edge_field-b c = let a = c.args in
    let h : a.b < edge_target a.ws.now a.e = omega (arith, c.edge_field.ensures, c.if-edge_field-b.true) in
    λ s pool k. c.hint_list.ensures s pool k ∙ sym (edge_high a.ws.now pool a.b a.e (walk s a.map.now a.wish.now k) h)

pub returns-else-edge_field-b : goal.returns-else-edge_field-b
returns-else-edge_field-b c = let a = c.args in
    let h : edge_target a.ws.now a.e ≤ a.b = omega (arith, c.edge_field.ensures, c.if-edge_field-b.false) in
    λ s pool k. sym (edge_low a.ws.now pool a.b a.e (walk s a.map.now a.wish.now k) h)
