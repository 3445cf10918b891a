-- A table with a word for every value holds the row of each definition of a function in shape: filling it answers refusal 4.
use Prim.Native.Nat.{ℕ, zero, suc, ◌+◌, ◌≤◌}
use mathlib.Core.Bool.{Bool, true}
use mathlib.Core.List.{List, [], ◌∷◌}
use mathlib.Core.Path.{◌≡◌}
use native.Mathlib.Nat.{lt_of_lt_of_le}
use native.Mathlib.Omega.{arith}
use borrow.Author.Tests.{leb-true, ltb-true}
use lib.Dec.{leb, eqb}
use lib.ListN.{length, get_or}
use Rattle.input.specs.Layout.{values, pooled}
use Rattle.input.specs.Records.{block_id, params_at, param_count, params_of, operands_at, operand_count, operands_of, destination}
use Rattle.input.proofs.Chain.{both-parts}
use Rattle.rows.specs.Rows.{Row, params, instr, term, rows_of, every, over_rows, ref, refs, maybe, row_defs, defs_of}
use Rattle.shape.specs.Shape.{value_in, values_in, list_in, params_shape, instr_shape, row_shape}
use Rattle.fit.specs.Tabled.{Roomy, marks, marked}
use Rattle.fit.proofs.Filling.{Filled, filled-whole, roomy_none, roomy_cons, roomy_append}

values_roomy : (ws : List ℕ) (r : ℕ) (vs : List ℕ) → values_in ws vs ≡ true → Roomy (values ws) (refs r vs)
unfolding refs
values_roomy ws r [] e = roomy_none (values ws)
values_roomy ws r (v ∷ vs) e =
    let p = both-parts (value_in ws v) (values_in ws vs) e in
    roomy_cons (values ws) (ref r v) (refs r vs) (ltb-true v (values ws) p.0) (values_roomy ws r vs p.1)

destination_roomy : (n r d : ℕ) → d ≤ n → Roomy n (refs r (maybe d))
unfolding refs
destination_roomy n r zero h = roomy_none n
destination_roomy n r (suc d) h = roomy_cons n (ref r d) [] (omega arith) (roomy_none n)

row_roomy : (ws : List ℕ) (r : ℕ) (x : Row) → row_shape ws r x ≡ true → Roomy (values ws) (row_defs ws r x)
unfolding row_defs params_shape instr_shape
row_roomy ws r (params b) e =
    let p = both-parts (eqb (block_id ws b) b) _ e in
    let q = both-parts (list_in ws (params_at ws b) (param_count ws b) (params_of ws b)) _ p.1 in
    let s = both-parts (leb (params_at ws b + param_count ws b) (pooled ws)) (values_in ws (params_of ws b)) q.0 in
    values_roomy ws r (params_of ws b) s.1
row_roomy ws r (instr i) e =
    let p = both-parts (list_in ws (operands_at ws i) (operand_count ws i) (operands_of ws i)) _ e in
    let q = both-parts (leb (destination ws i) (values ws)) _ p.1 in
    destination_roomy (values ws) r (destination ws i) (leb-true _ _ q.0)
row_roomy ws r (term b) e = roomy_none (values ws)

rows_roomy : (ws : List ℕ) (r : ℕ) (xs : List Row) → every (row_shape ws) r xs ≡ true → Roomy (values ws) (over_rows (row_defs ws) r xs)
unfolding every over_rows
rows_roomy ws r [] e = roomy_none (values ws)
rows_roomy ws r (x ∷ xs) e =
    let p = both-parts (row_shape ws r x) (every (row_shape ws) (r + 1) xs) e in
    roomy_append (values ws) (row_defs ws r x) (over_rows (row_defs ws) (r + 1) xs) (row_roomy ws r x p.0) (rows_roomy ws (r + 1) xs p.1)

-- the answer of filling a table of zeros, and what it holds then
pub rows-filled : (ws t t' : List ℕ) (x : Bool) → every (row_shape ws) 0 (rows_of ws) ≡ true → values ws ≤ length t → ((v : ℕ) → get_or t v 0 ≡ 0)
    → marks t' x ≡ marked (defs_of ws) (marks t true) → Filled (marks t' x) (defs_of ws)
rows-filled ws t t' x shape room zeros e =
    rw e (filled-whole (defs_of ws) t zeros (λ v d. lt_of_lt_of_le (rows_roomy ws 0 (rows_of ws) shape v d) room))
