-- Each test joined is the next choice of `words_ok`; a chain over a table is `each` of its records.
use Rattle.std.proofs.Common.{rules, ◌≡◌, arith, refl, ◌∙◌}
use borrow.Author.Tests.{tests}
use Rattle.input.specs.Layout.{values, blocks, instructions, constants}
use Rattle.input.specs.Forms.{both, value_ok, block_ok, instr_ok, constant_ok, each, words_ok}
use Rattle.input.proofs.Chain.{both_rest, goes, stops}
use Rattle.input.proofs.Each.{each_from_all}
use Rattle.input.proofs.words_ok.Goals as goal
use Rattle.input.proofs.words_ok.Goals.{Joined-head_ok, then-head_ok, else-head_ok, Joined-all, then-all, else-all, Joined-all-2, then-all-2, else-all-2}

with_values : (c : Joined-head_ok) → c.if-head_ok.value ≡ both c.head_ok.result (each (value_ok c.args.ws.now) 0 (values c.args.ws.now))
with_values c =
    elim c.if-head_ok.branch [
      | then-head_ok w ↦ goes w.if-head_ok.true (w.value-is ∙ each_from_all (value_ok c.args.ws.now) (omega arith) w.all.ensures.ran (λ x b q k. search (rules, tests)))
      | else-head_ok w ↦ stops _ w.if-head_ok.false w.value-is
    ]

with_blocks : (c : Joined-all) → c.if-all.value ≡ both c.if-head_ok.value (each (block_ok c.args.ws.now) 0 (blocks c.args.ws.now))
with_blocks c =
    elim c.if-all.branch [
      | then-all w ↦ goes w.if-all.true (w.value-is ∙ each_from_all (block_ok c.args.ws.now) (omega arith) w.all-then-all.ensures.ran (λ x b q k. search (rules, tests)))
      | else-all w ↦ stops _ w.if-all.false w.value-is
    ]

with_instrs : (c : Joined-all-2) → c.if-all-2.value ≡ both c.if-all.value (each (instr_ok c.args.ws.now) 0 (instructions c.args.ws.now))
with_instrs c =
    elim c.if-all-2.branch [
      | then-all-2 w ↦ goes w.if-all-2.true (w.value-is ∙ each_from_all (instr_ok c.args.ws.now) (omega arith) w.all-then-all-2.ensures.ran (λ x b q k. search (rules, tests)))
      | else-all-2 w ↦ stops _ w.if-all-2.false w.value-is
    ]

pub returns-then-all-3 : goal.returns-then-all-3
unfolding words_ok
returns-then-all-3 c =
    let ws = c.args.ws.now in
    let p = goal.at.returns-then-all-3 c in
    let e : c.all-then-all-3.result ≡ both c.if-all-2.value (each (constant_ok ws) 0 (constants ws)) =
    goes c.if-all-3.true (each_from_all (constant_ok ws) (omega arith) c.all-then-all-3.ensures.ran (λ x b q k. search (rules, tests))) in
    rw (e, with_instrs p.Joined-all-2, with_blocks p.Joined-all, with_values p.Joined-head_ok, c.head_ok.ensures) (simp both_rest)

pub returns-else-all-3 : goal.returns-else-all-3
unfolding words_ok
returns-else-all-3 c =
    let ws = c.args.ws.now in
    let p = goal.at.returns-else-all-3 c in
    let e : c.if-all-2.value ≡ both c.if-all-2.value (each (constant_ok ws) 0 (constants ws)) = stops _ c.if-all-3.false refl in
    e ∙ rw (with_instrs p.Joined-all-2, with_blocks p.Joined-all, with_values p.Joined-head_ok, c.head_ok.ensures) (simp both_rest)
