-- A chain over both lists tests each pair.
use Rattle.std.proofs.Common.{rules, arith, sym, ◌∙◌}
use borrow.Author.Tests.{tests}
use Rattle.input.proofs.Each.{each_from_all}
use Rattle.fit.proofs.Counts.{checked_each}
use Rattle.fit.proofs.Checks.{args_counted}
use Rattle.fit.proofs.fit_args.Goals as goal

pub returns : goal.returns
returns c =
    let a = c.args in
    λ ds t. each_from_all _ (omega arith) c.all.ensures.ran (λ x b q k. search (rules, tests)) ∙ sym (checked_each (args_counted a.ws.now ds a.r a.at a.to) a.n)
