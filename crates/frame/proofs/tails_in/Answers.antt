-- How many `count` found, in the words of the rule.
use Rattle.std.proofs.Common.{◌≡◌, ◌≤◌, length, rules, eqb, sym, ◌∙◌, arith}
use Rattle.std.specs.List.{count_by}
use Rattle.std.proofs.lemmas.List.Sums.{count_by-le-length}
use Rattle.op.specs.Words.{parts}
use Rattle.frame.proofs.Lengths.{tails_are}
use Rattle.frame.proofs.tails_in.Goals as goal

pub returns : goal.returns
returns c =
    let ws = c.args.ops.now in
    let e : c.count.result ≡ count_by (λ w. eqb (parts w).code 14) ws = search rules in
    let h : count_by (λ w. eqb (parts w).code 14) ws ≤ length ws = count_by-le-length _ ws in
    (e ∙ sym (tails_are ws), omega arith)
