-- A live block's answer is that of its first part that fails, and its rows are few and its instructions there by then.
use mathlib.Core.List.{[]}
use mathlib.Core.Bool.{true}
use mathlib.Core.Path.{◌≡◌, sym, ◌∙◌}
use Rattle.input.specs.Records.{is_live}
use native.Mathlib.Omega.{arith}
use borrow.Author.Tests.{eq-eqb, ne_eqb}
use Rattle.input.specs.Layout.{head_field}
use Rattle.rows.proofs.Every.{length-live, every-dead, live_params, live_instrs, live_term}
use Rattle.judge.specs.Passes.{check_number, row_ok}
use Rattle.judge.proofs.Shapes.{passed_placed}
use Rattle.judge.proofs.block_pass.Goals as goal
use Rattle.judge.proofs.block_pass.Goals.{Else-block_field-ne0}

-- no tombstone
live : (c : Else-block_field-ne0) → is_live c.args.ws.now c.args.b ≡ true
live c = eq-eqb _ _ (sym c.block_field.ensures ∙ c.if-block_field-ne0.false)

pub returns-then-block_field-ne0 : goal.returns-then-block_field-ne0
returns-then-block_field-ne0 c =
    λ ds t. sym (every-dead (row_ok (check_number c.args.which) c.args.ws.now c.args.functions.now ds) c.args.ws.now c.args.r c.args.b
    (ne_eqb _ _ (λ e. c.if-block_field-ne0.true (c.block_field.ensures ∙ e))))

pub returns-then-not-params_pass : goal.returns-then-not-params_pass
returns-then-not-params_pass c =
    λ ds t. live_params (row_ok (check_number c.args.which) c.args.ws.now c.args.functions.now ds) c.args.ws.now c.args.r c.args.b (live (goal.at.returns-then-not-params_pass c).Else-block_field-ne0)
    (c.params_pass.ensures c.args.functions.now ds) c.if-not-params_pass.true

pub instrs_pass-requires : goal.instrs_pass-requires
unfolding head_field
instrs_pass-requires c =
    let a = c.args in
    let placed = passed_placed a.which a.ws.now [] [] a.r a.b c.requires.1 (live (goal.at.instrs_pass-requires c).Else-block_field-ne0) (sym (c.params_pass.ensures [] []) ∙ c.if-not-params_pass.false) in (
      omega (arith, placed, c.block_field-first.ensures, c.block_field-n.ensures, c.type_inv.ws 5),
      omega (arith, length-live a.ws.now a.b (live (goal.at.instrs_pass-requires c).Else-block_field-ne0), c.block_field-n.ensures, c.requires.0),
    )

pub returns-then-not-instrs_pass : goal.returns-then-not-instrs_pass
returns-then-not-instrs_pass c =
    let n = c.block_field-n.ensures in
    let first = c.block_field-first.ensures in
    λ ds t. live_instrs (row_ok (check_number c.args.which) c.args.ws.now c.args.functions.now ds) c.args.ws.now c.args.r c.args.b (live (goal.at.returns-then-not-instrs_pass c).Else-block_field-ne0)
    (c.params_pass.ensures c.args.functions.now ds) (rw (first, n) at (c.instrs_pass.ensures ds t))
    c.if-not-params_pass.false c.if-not-instrs_pass.true

pub overflow_cast-n : goal.overflow_cast-n
overflow_cast-n c =
    omega (arith, length-live c.args.ws.now c.args.b (live (goal.at.overflow_cast-n c).Else-block_field-ne0), c.block_field-n.ensures, c.requires.0)

pub overflow_add-r-3 : goal.overflow_add-r-3
overflow_add-r-3 c =
    omega (arith, length-live c.args.ws.now c.args.b (live (goal.at.overflow_add-r-3 c).Else-block_field-ne0), c.block_field-n.ensures, c.requires.0)

pub returns : goal.returns
returns c =
    let n = c.block_field-n.ensures in
    let first = c.block_field-first.ensures in
    λ ds t. live_term (row_ok (check_number c.args.which) c.args.ws.now c.args.functions.now ds) c.args.ws.now c.args.r c.args.b (live (goal.at.returns c).Else-block_field-ne0)
    (c.params_pass.ensures c.args.functions.now ds) (rw (first, n) at (c.instrs_pass.ensures ds t))
    c.if-not-params_pass.false (rw n at (c.term_pass.ensures ds t)) c.if-not-instrs_pass.false
