-- Each test joined is the next choice of `counts_ok`; a chain over a table is `each` of its records.
use Rattle.std.proofs.Common.{rules, ◌≡◌, leb, arith, refl, ◌∙◌}
use borrow.Author.Tests.{tests}
use Rattle.base.specs.Limits.{most_values, most_blocks, most_rows}
use Rattle.place.specs.Registers.{registers}
use Rattle.input.specs.Layout.{values, blocks, instructions}
use Rattle.input.specs.Forms.{both, each}
use Rattle.input.proofs.Chain.{both_rest, goes, stops}
use Rattle.input.proofs.Each.{each_from_all}
use Rattle.shape.specs.Counts.{row_count, block_counts, instr_counts, counts_ok}
use Rattle.shape.proofs.counts_ok.Goals as goal
use Rattle.shape.proofs.counts_ok.Goals.{Joined-head_field-le-MOST_VALUES, then-head_field-le-MOST_VALUES, else-head_field-le-MOST_VALUES}
use Rattle.shape.proofs.counts_ok.Goals.{Joined-head_field-le-MOST_BLOCKS, then-head_field-le-MOST_BLOCKS, else-head_field-le-MOST_BLOCKS}
use Rattle.shape.proofs.counts_ok.Goals.{Joined-row_count-le-MOST_ROWS, then-row_count-le-MOST_ROWS, else-row_count-le-MOST_ROWS}

with_blocks : (c : Joined-head_field-le-MOST_VALUES)
    → c.if-head_field-le-MOST_VALUES.value ≡ both (leb (values c.args.ws.now) most_values) (leb (blocks c.args.ws.now) most_blocks)
with_blocks c =
    elim c.if-head_field-le-MOST_VALUES.branch [
      | then-head_field-le-MOST_VALUES w ↦ search (rules, tests)
      | else-head_field-le-MOST_VALUES w ↦ search (rules, tests)
    ]

with_rows : (c : Joined-head_field-le-MOST_BLOCKS)
    → c.if-head_field-le-MOST_BLOCKS.value ≡ both c.if-head_field-le-MOST_VALUES.value (leb (row_count c.args.ws.now 0 (blocks c.args.ws.now)) most_rows)
with_rows c =
    elim c.if-head_field-le-MOST_BLOCKS.branch [
      | then-head_field-le-MOST_BLOCKS w ↦ goes w.if-head_field-le-MOST_BLOCKS.true (search (rules, tests))
      | else-head_field-le-MOST_BLOCKS w ↦ stops _ w.if-head_field-le-MOST_BLOCKS.false w.value-is
    ]

with_each_block : (c : Joined-row_count-le-MOST_ROWS)
    → c.if-row_count-le-MOST_ROWS.value ≡ both c.if-head_field-le-MOST_BLOCKS.value (each (block_counts registers c.args.ws.now) 0 (blocks c.args.ws.now))
with_each_block c =
    elim c.if-row_count-le-MOST_ROWS.branch [
      | then-row_count-le-MOST_ROWS w ↦
          goes w.if-row_count-le-MOST_ROWS.true
          (w.value-is ∙ each_from_all (block_counts registers c.args.ws.now) (omega arith) w.all.ensures.ran (λ x b q k. search (rules, tests)))
      | else-row_count-le-MOST_ROWS w ↦ stops _ w.if-row_count-le-MOST_ROWS.false w.value-is
    ]

pub returns-then-all : goal.returns-then-all
unfolding counts_ok
returns-then-all c =
    let ws = c.args.ws.now in
    let p = goal.at.returns-then-all c in
    let e : c.all-then-all.result ≡ both c.if-row_count-le-MOST_ROWS.value (each (instr_counts registers ws) 0 (instructions ws)) =
    goes c.if-all.true (each_from_all (instr_counts registers ws) (omega arith) c.all-then-all.ensures.ran (λ x b q k. search (rules, tests))) in
    rw (e, with_each_block p.Joined-row_count-le-MOST_ROWS, with_rows p.Joined-head_field-le-MOST_BLOCKS, with_blocks p.Joined-head_field-le-MOST_VALUES)
    (simp both_rest)

pub returns-else-all : goal.returns-else-all
unfolding counts_ok
returns-else-all c =
    let ws = c.args.ws.now in
    let p = goal.at.returns-else-all c in
    let e : c.if-row_count-le-MOST_ROWS.value ≡ both c.if-row_count-le-MOST_ROWS.value (each (instr_counts registers ws) 0 (instructions ws)) = stops _ c.if-all.false refl in
    e ∙ rw (with_each_block p.Joined-row_count-le-MOST_ROWS, with_rows p.Joined-head_field-le-MOST_BLOCKS, with_blocks p.Joined-head_field-le-MOST_VALUES)
    (simp both_rest)
