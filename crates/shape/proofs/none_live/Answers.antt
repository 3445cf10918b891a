-- A chain over the blocks from one on tests each for a tombstone.
use Rattle.std.proofs.Common.{rules, arith, sym, ◌∙◌}
use borrow.Author.Tests.{tests}
use Rattle.input.proofs.Each.{each_from_all}
use Rattle.shape.proofs.Loops.{dead, none_each}
use Rattle.shape.proofs.none_live.Goals as goal

pub returns : goal.returns
returns c =
    each_from_all (dead c.args.ws.now) (omega arith) c.all.ensures.ran (λ x b q k. search (rules, tests))
    ∙ sym (none_each c.args.ws.now c.args.from _)
