-- A chain over the list tests each value.
use Rattle.std.proofs.Common.{rules, arith, sym, ◌∙◌}
use borrow.Author.Tests.{tests}
use Rattle.input.proofs.Each.{each_from_all}
use Rattle.fit.proofs.Counts.{checked_each}
use Rattle.fit.proofs.Checks.{defs_counted}
use Rattle.fit.proofs.fit_defs.Goals as goal

pub returns : goal.returns
returns c =
    let a = c.args in
    each_from_all _ (omega arith) c.all.ensures.ran (λ x b q k. search (rules, tests)) ∙ sym (checked_each (defs_counted a.ws.now a.r a.at) a.n)
