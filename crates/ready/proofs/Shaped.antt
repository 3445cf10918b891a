-- What refusal 3 leaves to be known of a live block's terminator and its instructions: their edges and constants are there.
use Prim.Native.Nat.{ℕ, ◌+◌, ◌*◌, ◌-◌, ◌≤◌}
use mathlib.Core.Bool.{true}
use mathlib.Core.List.{List}
use mathlib.Core.Path.{◌≡◌}
use native.Mathlib.Omega.{arith}
use lib.Dec.{leb, ltb, eqb}
use borrow.Author.Tests.{leb-true, ltb-true}
use Rattle.base.specs.Choice.{pick}
use Rattle.input.specs.Layout.{values, blocks, edges, constants}
use Rattle.input.specs.Records.{is_live, term_kind, term_operands_at, term_operand_count, term_operands, first_edge, edge_count, term_x, term_y, no_term, branch_cmp_imm, branch_cmp, switch, instr_kind, destination, operands_at, operand_count, operands_of, instr_x, instr_y, bin_imm, load_const, cast, lookup, edge_target}
use Rattle.input.specs.Forms.{each}
use Rattle.input.proofs.Chain.{both-parts}
use Rattle.input.proofs.Each.{each_at}
use Rattle.shape.specs.Shape.{list_in, immediate, cast_ok, instr_shape, edge_shape, may_lack, term_shape}
use Rattle.ready.specs.Ready.{Live, EdgeOf}
use Rattle.ready.proofs.Passes.{asked}

edge_target_lem : (ws : List ℕ) (e : ℕ) → edge_shape ws e ≡ true → Live ws (edge_target ws e)
unfolding edge_shape
edge_target_lem ws e h =
    let p = both-parts (ltb (edge_target ws e) (blocks ws)) _ h in
    let q = both-parts (is_live ws (edge_target ws e)) _ p.1 in
    record { there = ltb-true (edge_target ws e) (blocks ws) p.0; is = q.0 }

pub record TermShaped (ws : List ℕ) (b : ℕ) : Type 0 where
  pub edges_there : first_edge ws b + edge_count ws b ≤ edges ws
  pub targets : (e : ℕ) → EdgeOf ws b e → Live ws (edge_target ws e)
  pub cases_there : term_kind ws b ≡ switch → term_x ws b + term_y ws b ≤ constants ws

pub term_shaped : (ws : List ℕ) (b : ℕ) → term_shape ws b ≡ true → TermShaped ws b
unfolding term_shape
term_shaped ws b h =
    let k = term_kind ws b in
    let p = both-parts (pick (eqb k no_term) (may_lack ws b) true) _ h in
    let q = both-parts (list_in ws (term_operands_at ws b) (term_operand_count ws b) (term_operands ws b)) _ p.1 in
    let r = both-parts (leb (first_edge ws b + edge_count ws b) (edges ws)) _ q.1 in
    let s = both-parts (each (edge_shape ws) (first_edge ws b) (edge_count ws b)) _ r.1 in
    let t = both-parts (pick (eqb k branch_cmp_imm) (eqb (term_x ws b) 8) true) _ s.1 in
    let u = both-parts (pick (eqb k branch_cmp) (eqb (term_x ws b) 16) true) _ t.1 in
    record {
      edges_there = leb-true _ _ r.0;
      targets = λ e o.
          let z : first_edge ws b + (e - first_edge ws b) ≡ e = omega (arith, o.from) in
          edge_target_lem ws e
          (rw z at (each_at (edge_shape ws) (first_edge ws b) (edge_count ws b) s.0 (e - first_edge ws b) (omega (arith, o.from, o.until))));
      cases_there = λ o. leb-true _ _ (asked k switch _ u.1 o);
    }

-- an instruction's constants
pub entries_there : (ws : List ℕ) (i : ℕ) → instr_shape ws i ≡ true → instr_kind ws i ≡ lookup → instr_x ws i + 2 * instr_y ws i + 1 ≤ constants ws
unfolding instr_shape
entries_there ws i h o =
    let k = instr_kind ws i in
    let p = both-parts (list_in ws (operands_at ws i) (operand_count ws i) (operands_of ws i)) _ h in
    let q = both-parts (leb (destination ws i) (values ws)) _ p.1 in
    let r = both-parts (pick (eqb k bin_imm) (immediate (instr_x ws i)) true) _ q.1 in
    let s = both-parts (pick (eqb k cast) (cast_ok (instr_x ws i) (instr_y ws i)) true) _ r.1 in
    let t = both-parts (pick (eqb k load_const) (ltb (instr_x ws i) (constants ws)) true) _ s.1 in
    leb-true _ _ (asked k lookup _ t.1 o)
