-- A chain over the instructions checks each.
use Rattle.std.proofs.Common.{rules, arith, ◌∙◌}
use borrow.Author.Tests.{tests}
use Rattle.input.proofs.Each.{each_from_all}
use Rattle.judge.specs.Passes.{row_ok, check_number}
use Rattle.judge.proofs.Instrs.{instr_at, each_instr}
use Rattle.judge.proofs.instrs_pass.Goals as goal

pub returns : goal.returns
returns c =
    let a = c.args in
    λ ds t. each_from_all (instr_at (row_ok (check_number a.which) a.ws.now a.functions.now ds) a.r a.first) (omega arith) c.all.ensures.ran (λ x b q k. search (rules, tests))
    ∙ each_instr (row_ok (check_number a.which) a.ws.now a.functions.now ds) a.r a.first a.n
