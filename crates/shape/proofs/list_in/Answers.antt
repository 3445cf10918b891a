-- A list that is there is tested number by number.
use Rattle.std.proofs.Common.{rules, ◌≡◌, arith}
use borrow.Author.Tests.{tests}
use Rattle.input.specs.Forms.{each}
use Rattle.input.proofs.Each.{each_from_all}
use Rattle.shape.proofs.Loops.{number_ok, list_tests}
use Rattle.shape.proofs.list_in.Goals as goal

pub returns-then-part_in : goal.returns-then-part_in
returns-then-part_in c =
    let a = c.args in
    let e : c.all.result ≡ each (number_ok a.ws.now a.at) 0 a.count =
    each_from_all (number_ok a.ws.now a.at) (omega arith) c.all.ensures.ran (λ x b q k. rw (← c.head_field-values.ensures) (search (rules, tests))) in
    rw (← c.head_field.ensures, ← c.part_in.ensures, c.if-part_in.true, list_tests a.ws.now a.at a.count) e
