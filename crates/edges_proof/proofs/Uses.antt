-- What the checks say of the edges of a live block: as many arguments as parameters, and the argument of a read parameter is in use before the
-- terminator's row.
use mathlib.Core.Path.{◌≡◌, refl, sym, ap, ◌∙◌}
use Prim.Native.Nat.{ℕ, zero, suc, ◌+◌, ◌-◌, ◌<◌}
use mathlib.Core.List.{List, [], ◌∷◌}
use mathlib.Core.Bool.{true, false}
use native.Mathlib.Nat.{not-suc-le-zero, le_of_suc-le-suc}
use native.Mathlib.Omega.{arith}
use borrow.Author.Tests.{eqb-true, leb-true, ltb-true}
use lib.Dec.{leb, ltb, eqb}
use lib.ListN.{length, get_or}
use Rattle.base.specs.Choice.{pick}
use Rattle.input.specs.Layout.{blocks, edges, list_at}
use Rattle.input.specs.Records.{is_live, param_count, params_of, end_of, term_kind, no_term, term_operands_at, term_operand_count, term_operands, instr_count, first_edge, edge_count, edge_target, argument_count, arguments_of}
use Rattle.input.specs.Forms.{each}
use Rattle.input.proofs.Chain.{both-parts}
use Rattle.input.proofs.Each.{each_at}
use Rattle.rows.specs.Rows.{Ref, ref, refs, term, defs_of, defined, row_in, InUse}
use Rattle.shape.specs.Shape.{list_in, edge_shape, may_lack, term_shape, shape_ok, row_shape}
use Rattle.fit.specs.Intervals.{unread, fit_use, fit_uses, fit_args, fit_edges, fit_row, intervals_ok}
use Rattle.judge.proofs.Shapes.{shape_given}
use Rattle.ready.specs.Ready.{Live, EdgeOf}
use Rattle.ready.proofs.Passes.{block_passes}
use Rattle.ready.proofs.Shaped.{term_shaped}

-- ---- as many arguments as parameters
pub list_long : (ws : List ℕ) (at n : ℕ) → length (list_at ws at n) ≡ n
unfolding list_at
list_long ws at zero = refl
list_long ws at (suc n) = ap suc (list_long ws (at + 1) n)

edge-counts : (ws : List ℕ) (e : ℕ) → edge_shape ws e ≡ true → argument_count ws e ≡ param_count ws (edge_target ws e)
unfolding edge_shape
edge-counts ws e h =
    let p = both-parts (ltb (edge_target ws e) (blocks ws)) _ h in
    let q = both-parts (is_live ws (edge_target ws e)) _ p.1 in
    let r = both-parts (eqb (argument_count ws e) (param_count ws (edge_target ws e))) _ q.1 in
    eqb-true (argument_count ws e) (param_count ws (edge_target ws e)) r.0

term_edges : (ws : List ℕ) (b : ℕ) → term_shape ws b ≡ true → each (edge_shape ws) (first_edge ws b) (edge_count ws b) ≡ true
unfolding term_shape
term_edges ws b h =
    let p = both-parts (pick (eqb (term_kind ws b) no_term) (may_lack ws b) true) _ h in
    let q = both-parts (list_in ws (term_operands_at ws b) (term_operand_count ws b) (term_operands ws b)) _ p.1 in
    let r = both-parts (leb (first_edge ws b + edge_count ws b) (edges ws)) _ q.1 in
    (both-parts (each (edge_shape ws) (first_edge ws b) (edge_count ws b)) _ r.1).0

-- ---- a use that fits: the value is in use at the row before
pub use_fits : (ws : List ℕ) (r v : ℕ) → fit_use ws (defs_of ws) (ref r v) ≡ true → InUse ws v (r - 1)
unfolding fit_use
use_fits ws r v h =
    let p = both-parts (defined v (defs_of ws)) _ h in
    let q = both-parts (ltb (row_in v (defs_of ws)) r) _ p.1 in
    let a = ltb-true (row_in v (defs_of ws)) r q.0 in
    let z = leb-true r (end_of ws v) q.1 in
    record { is = p.0; from = omega (arith, a); until = omega (arith, a, z) }

args_fit : (ws : List ℕ) (ds : List Ref) (r : ℕ) (xs ps : List ℕ) → fit_args ws ds r xs ps ≡ true → (i : ℕ) → i < length xs → i < length ps
    → unread ws (get_or ps i 0) ≡ false → fit_use ws ds (ref r (get_or xs i 0)) ≡ true
unfolding fit_args
args_fit ws ds r [] ps h i l k u = absurd (not-suc-le-zero l)
args_fit ws ds r (a ∷ xs) [] h i l k u = absurd (not-suc-le-zero k)
args_fit ws ds r (a ∷ xs) (p ∷ ps) h zero l k u =
    rw u at (both-parts (pick (unread ws p) true (fit_use ws ds (ref r a))) (fit_args ws ds r xs ps) h).0
args_fit ws ds r (a ∷ xs) (p ∷ ps) h (suc i) l k u =
    args_fit ws ds r xs ps (both-parts (pick (unread ws p) true (fit_use ws ds (ref r a))) (fit_args ws ds r xs ps) h).1 i
    (le_of_suc-le-suc l) (le_of_suc-le-suc k) u

edges_fit : (ws : List ℕ) (ds : List Ref) (r e n : ℕ) → fit_edges ws ds r e n ≡ true → (j : ℕ) → j < n
    → fit_args ws ds r (arguments_of ws (e + j)) (params_of ws (edge_target ws (e + j))) ≡ true
unfolding fit_edges
edges_fit ws ds r e zero h j l = absurd (not-suc-le-zero l)
edges_fit ws ds r e (suc n) h zero l =
    let z : e + 0 ≡ e = omega arith in
    rw z (both-parts (fit_args ws ds r (arguments_of ws e) (params_of ws (edge_target ws e))) (fit_edges ws ds r (e + 1) n) h).0
edges_fit ws ds r e (suc n) h (suc j) l =
    let z : e + suc j ≡ e + 1 + j = omega arith in
    rw z
    (edges_fit ws ds r (e + 1) n (both-parts (fit_args ws ds r (arguments_of ws e) (params_of ws (edge_target ws e))) (fit_edges ws ds r (e + 1) n) h).1 j
    (le_of_suc-le-suc l))

term_fits : (ws : List ℕ) (ds : List Ref) (r b : ℕ) → fit_row ws ds r (term b) ≡ true → fit_edges ws ds r (first_edge ws b) (edge_count ws b) ≡ true
unfolding fit_row
term_fits ws ds r b h = (both-parts (fit_uses ws ds (refs r (term_operands ws b))) (fit_edges ws ds r (first_edge ws b) (edge_count ws b)) h).1

-- ---- an edge of a live block
module _ (ws : List ℕ) (b e : ℕ) (o : EdgeOf ws b e) where
  here : first_edge ws b + (e - first_edge ws b) ≡ e
  here = omega (arith, o.from)

  index : e - first_edge ws b < edge_count ws b
  index = omega (arith, o.from, o.until)

  module _ (shape : shape_ok ws ≡ true) where
    shaped : term_shape ws b ≡ true
    shaped = (block_passes (row_shape ws) ws (shape_given ws shape).rows b o.block).of_term

    pub target_live : Live ws (edge_target ws e)
    target_live = (term_shaped ws b shaped).targets e o

    counts : argument_count ws e ≡ param_count ws (edge_target ws e)
    counts = edge-counts ws e (rw here at (each_at (edge_shape ws) (first_edge ws b) (edge_count ws b) (term_edges ws b shaped) (e - first_edge ws b) index))

    pub as_many : length (arguments_of ws e) ≡ length (params_of ws (edge_target ws e))
    as_many = list_long ws _ (argument_count ws e) ∙ counts ∙ sym (list_long ws _ (param_count ws (edge_target ws e)))

  pub argument_in_use : intervals_ok ws ≡ true → (i : ℕ) → i < length (arguments_of ws e) → i < length (params_of ws (edge_target ws e))
      → unread ws (get_or (params_of ws (edge_target ws e)) i 0) ≡ false → (r : ℕ) × InUse ws (get_or (arguments_of ws e) i 0) r
  argument_in_use fit i l k u =
      let p = block_passes (fit_row ws (defs_of ws)) ws fit b o.block in
      let r : ℕ = p.row + 1 + instr_count ws b in
      let f : fit_args ws (defs_of ws) r (arguments_of ws e) (params_of ws (edge_target ws e)) ≡ true =
      (rw here at (edges_fit ws (defs_of ws) r (first_edge ws b) (edge_count ws b) (term_fits ws (defs_of ws) r b p.of_term) (e - first_edge ws b) index)) in
      (r - 1, use_fits ws r _ (args_fit ws (defs_of ws) r (arguments_of ws e) (params_of ws (edge_target ws e)) f i l k u))
