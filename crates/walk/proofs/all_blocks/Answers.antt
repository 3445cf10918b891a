-- What is left of the rows from block b on: each turn takes those of one block.
use mathlib.Core.List.{List}
use mathlib.Core.Path.{◌≡◌, sym, ap, ◌∙◌}
use native.Mathlib.Omega.{arith}
use Prim.Native.Nat.{ℕ, ◌+◌, ◌-◌, ◌≤◌, ◌<◌}
use borrow.Author.Tests.{eq-eqb}
use lib.ListN.{length}
use Rattle.alloc.specs.Good.{Good}
use Rattle.input.specs.Layout.{blocks}
use Rattle.input.specs.Records.{tombstone, instr_count}
use Rattle.rows.specs.Rows.{Row, term, block_rows, rows_from}
use Rattle.assign.specs.Steps.{row_steps}
use Rattle.assign.specs.Walk.{Walk, walk, run}
use Rattle.assign.specs.Fits.{run_rows}
use Rattle.walk.proofs.Rows.{from_all, length-turn, blocks-turn, blocks_end, live-length, live-run, dead-run}
use Rattle.walk.proofs.all_blocks.Goals.{then-block_field-eq0, else-block_field-eq0}
use Rattle.walk.proofs.all_blocks.Goals as goal

pub loop-b-init : goal.loop-b-init
loop-b-init c = let a = c.args in
    let e = from_all a.ws.now c.head_field-n.result in record {
      row = omega (arith, ap length e);
      good = c.requires.good;
      left = ap (λ (l : List Row). run_rows a.ws.now a.pool.now 0 l (walk a.s a.map.now a.wish.now a.noted.now)) e;
    }

pub overflow_cast-r : goal.overflow_cast-r
overflow_cast-r c = let f : length (rows_from c.args.ws.now 0 c.head_field-n.result) ≤ 16384 = rw c.head_field-n.ensures c.requires.fits.rows in
    omega (arith, c.loop-b.invariant.row, f)

pub live_block-t-requires-clause-b_bound : goal.live_block-t-requires-clause-b_bound
live_block-t-requires-clause-b_bound c = let l = c.loop-b in
    let ws = c.args.ws.now in
    let n : ℕ = c.head_field-n.result in
    let f : length (rows_from ws 0 n) ≤ 16384 = rw c.head_field-n.ensures c.requires.fits.rows in
    let h : tombstone ws l.b ≡ 0 = sym c.block_field.ensures ∙ c.if-block_field-eq0.true in
    let i : l.b < blocks ws = omega (arith, c.loop-b-test.true, c.head_field-n.ensures) in (
      c.requires.fits.instrs l.b i (eq-eqb _ _ h),
      omega (arith, l.invariant.row, f, length-turn ws l.b n c.loop-b-test.true, live-length ws l.b h),
    )

pub overflow_add-row : goal.overflow_add-row
overflow_add-row c = let l = c.loop-b in
    let ws = c.args.ws.now in
    let f : length (rows_from ws 0 c.head_field-n.result) ≤ 16384 = rw c.head_field-n.ensures c.requires.fits.rows in
    omega (arith, l.invariant.row, f, c.rows_of-row.ensures, length-turn ws l.b c.head_field-n.result c.loop-b-test.true)

pub loop-b-preserved : goal.loop-b-preserved
loop-b-preserved c = let a = c.args in
    let l = c.loop-b in
    let j = c.if-block_field-eq0 in
    let n : ℕ = c.head_field-n.result in
    let ws = a.ws.now in
    let pool = a.pool.now in
    let w : Walk = walk l.t l.map l.wish l.noted in
    let turned : Good j.t × (walk j.t j.map j.wish j.noted ≡ run_rows ws pool l.row (block_rows ws l.b) w) =
    elim j.branch [
      | then-block_field-eq0 y ↦
          let h : tombstone ws l.b ≡ 0 = sym c.block_field.ensures ∙ y.if-block_field-eq0.true in
          let k : ℕ = instr_count ws l.b in
          rw (y.t-is, y.map-is, y.wish-is, y.noted-is) (
            y.live_block-t.ensures.good_2,
            y.block_edges.ensures y.live_block-t.result pool y.live_block-t.new.noted (l.row + 1 + k)
                ∙ ap (run ws pool (row_steps ws (l.row + 1 + k) (term l.b))) y.live_block-t.ensures.noted_after
                ∙ sym (live-run ws l.b pool l.row w h),
          )
      | else-block_field-eq0 y ↦
          rw (y.t-is, y.map-is, y.wish-is, y.noted-is) (l.invariant.good, sym (dead-run ws l.b pool l.row w (rw c.block_field.ensures at y.if-block_field-eq0.false)))
    ] in
    record {
      row = omega (arith, l.invariant.row, c.rows_of-row.ensures, length-turn ws l.b n c.loop-b-test.true);
      good = turned.0;
      left = rw c.rows_of-row.ensures
          (ap (run_rows ws pool (l.row + length (block_rows ws l.b)) (rows_from ws (l.b + 1) (n - (l.b + 1)))) turned.1
          ∙ sym (blocks-turn ws l.b n c.loop-b-test.true pool l.row w)
          ∙ l.invariant.left);
    }

pub returns : goal.returns
returns c = let a = c.args in
    let l = c.loop-b in record {
      good_2 = l.invariant.good;
      noted_after = rw (sym c.head_field-n.ensures)
          (sym (blocks_end a.ws.now a.pool.now l.row l.b c.head_field-n.result (walk l.t l.map l.wish l.noted) c.loop-b-test.false)
          ∙ l.invariant.left);
    }
