-- Edges that are there are tested one by one.
use Rattle.std.proofs.Common.{rules, ◌≡◌, arith}
use borrow.Author.Tests.{tests}
use Rattle.input.specs.Forms.{each}
use Rattle.input.proofs.Each.{each_from_all}
use Rattle.shape.specs.Shape.{edge_shape}
use Rattle.shape.proofs.edges_in.Goals as goal

pub returns-then-part_in : goal.returns-then-part_in
returns-then-part_in c =
    let a = c.args in
    let e : c.all.result ≡ each (edge_shape a.ws.now) a.first a.count =
    each_from_all (edge_shape a.ws.now) (omega arith) c.all.ensures.ran (λ x b q k. search (rules, tests)) in
    rw (← c.head_field.ensures, ← c.part_in.ensures, c.if-part_in.true) e
