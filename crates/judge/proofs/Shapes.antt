-- What a function in shape says: that block 0 is there and live, and of each live block where its instructions are.
use Prim.Native.Nat.{ℕ, ◌+◌, ◌<◌, ◌≤◌}
use mathlib.Core.Bool.{true}
use mathlib.Core.List.{List}
use mathlib.Core.Logic.{◌⊎◌, ⊎_elim}
use mathlib.Core.Path.{◌≡◌, sym, ap, ◌∙◌}
use native.Mathlib.Omega.{arith}
use borrow.Author.Tests.{leb-true, ltb-true}
use lib.Dec.{ltb, eqb}
use Rattle.input.specs.Layout.{blocks, instructions}
use Rattle.input.specs.Records.{is_live, block_id, params_at, param_count, params_of, first_instr, instr_count}
use Rattle.input.proofs.Chain.{both-parts}
use Rattle.rows.specs.Rows.{params, rows_of, every, Ref}
use Rattle.shape.specs.Shape.{list_in, params_shape, row_shape, shape_ok}
use Rattle.judge.specs.declared.RowCheck.{RowCheck}
use Rattle.judge.specs.declared.RowCheck.TheVariants.{Shape}
use Rattle.judge.specs.Passes.{row_ok, check_number, Placed}
use Rattle.rows.proofs.Every.{every-live, every-block}
use Rattle.judge.proofs.Which.{which_shape}

pub record InShape (ws : List ℕ) : Type 0 where
  pub some : 0 < blocks ws
  pub live : is_live ws 0 ≡ true
  pub rows : every (row_shape ws) 0 (rows_of ws) ≡ true

pub shape_given : (ws : List ℕ) → shape_ok ws ≡ true → InShape ws
unfolding shape_ok
shape_given ws e =
    let p = both-parts (ltb 0 (blocks ws)) _ e in
    let q = both-parts (is_live ws 0) _ p.1 in
    record { some = ltb-true _ _ p.0; live = q.0; rows = q.1 }

-- the instructions of a block whose row of parameters is in shape
shape_placed : (ws : List ℕ) (b : ℕ) → params_shape ws b ≡ true → first_instr ws b + instr_count ws b ≤ instructions ws
unfolding params_shape
shape_placed ws b e =
    let p = both-parts (eqb (block_id ws b) b) _ e in
    let q = both-parts (list_in ws (params_at ws b) (param_count ws b) (params_of ws b)) _ p.1 in
    leb-true _ _ q.1

-- in a pass for refusal 3 the row of parameters says so, in the others it is known
pub passed_placed : (which : RowCheck) (ws functions : List ℕ) (ds : List Ref) (r b : ℕ) → (which ≡ Shape) ⊎ Placed ws b → is_live ws b ≡ true
    → row_ok (check_number which) ws functions ds r (params b) ≡ true → first_instr ws b + instr_count ws b ≤ instructions ws
passed_placed which ws functions ds r b known live e =
    ⊎_elim
    (λ (q : which ≡ Shape). shape_placed ws b (sym (which_shape (check_number which) ws functions ds r (params b) (ap check_number q)) ∙ e))
    (λ (p : Placed ws b). p live)
    known

-- every live block of a function in shape
pub rows-placed : (ws : List ℕ) → every (row_shape ws) 0 (rows_of ws) ≡ true → (b : ℕ) → b < blocks ws → Placed ws b
rows-placed ws e b h live =
    let z : 0 + b ≡ b = omega arith in
    let k = rw z at (every-block (row_shape ws) ws 0 0 (blocks ws) e b h) in
    let p = both-parts (params_shape ws b) _ (sym (every-live (row_shape ws) ws _ b live) ∙ k) in
    shape_placed ws b p.0
