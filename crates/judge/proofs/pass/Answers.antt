-- The invariant: r rows stand before block b, and the blocks from b on decide the answer.
use mathlib.Core.Logic.{inl, inr, ⊎_elim}
use mathlib.Core.Path.{◌≡◌}
use Prim.Native.Nat.{ℕ, ◌<◌}
use native.Mathlib.Omega.{arith}
use Rattle.input.specs.Layout.{blocks}
use Rattle.rows.proofs.Every.{before-start, before-turn, before_fits, blocks_start, blocks_go, blocks-stop, blocks-done}
use Rattle.judge.specs.Passes.{check_number, row_ok, Placed}
use Rattle.judge.specs.declared.RowCheck.TheVariants.{Shape}
use Rattle.judge.proofs.pass.Goals as goal

pub loop-b-init : goal.loop-b-init
loop-b-init c =
    let a = c.args in
    let end = c.head_field-b-end.result in
    (before-start a.ws.now end, λ ds t. blocks_start (row_ok (check_number a.which) a.ws.now a.functions.now ds) a.ws.now end)

pub block_pass-requires : goal.block_pass-requires
block_pass-requires c =
    let a = c.args in
    let l = c.loop-b in
    let end = c.head_field-b-end in
    let f = before_fits a.ws.now end.result l.r l.b c.loop-b-test.true l.invariant.0 in
    let p = rw (← end.ensures) at c.requires.0 in (
      omega (arith, f, p),
      ⊎_elim (λ (q : a.which ≡ Shape). inl q) (λ (q : (b : ℕ) → b < blocks a.ws.now → Placed a.ws.now b). inr (q l.b (rw (← end.ensures) c.loop-b-test.true))) c.requires.1,
    )

pub returns-then-not-block_pass : goal.returns-then-not-block_pass
returns-then-not-block_pass c =
    let a = c.args in
    let l = c.loop-b in
    let end = c.head_field-b-end in
    λ ds t. rw (← end.ensures)
    (blocks-stop (row_ok (check_number a.which) a.ws.now a.functions.now ds) a.ws.now end.result _ l.r l.b c.loop-b-test.true
    (c.block_pass.ensures ds t) (c.if-not-block_pass.true) (l.invariant.1 ds t))

pub rows_in-r-requires : goal.rows_in-r-requires
rows_in-r-requires c =
    let a = c.args in
    let l = c.loop-b in
    let end = c.head_field-b-end in
    let f = before_fits a.ws.now end.result l.r l.b c.loop-b-test.true l.invariant.0 in
    let p = rw (← end.ensures) at c.requires.0 in
    omega (arith, f, p)

pub overflow_add-r : goal.overflow_add-r
overflow_add-r c =
    let a = c.args in
    let l = c.loop-b in
    let end = c.head_field-b-end in
    let f = before_fits a.ws.now end.result l.r l.b c.loop-b-test.true l.invariant.0 in
    let p = rw (← end.ensures) at c.requires.0 in
    omega (arith, f, p, c.rows_in-r.ensures)

pub loop-b-preserved : goal.loop-b-preserved
loop-b-preserved c =
    let a = c.args in
    let l = c.loop-b in
    let end = c.head_field-b-end.result in
    let e = c.rows_in-r.ensures in (
      rw e (before-turn a.ws.now end l.r l.b c.loop-b-test.true l.invariant.0),
      λ ds t. rw e
          (blocks_go (row_ok (check_number a.which) a.ws.now a.functions.now ds) a.ws.now end _ l.r l.b c.loop-b-test.true
          (c.block_pass.ensures ds t) (c.if-not-block_pass.false) (l.invariant.1 ds t)),
    )

pub returns : goal.returns
returns c =
    let a = c.args in
    let l = c.loop-b in
    let end = c.head_field-b-end in
    λ ds t. rw (← end.ensures)
    (blocks-done (row_ok (check_number a.which) a.ws.now a.functions.now ds) a.ws.now end.result _ l.r l.b c.loop-b-test.false (l.invariant.1 ds t))
