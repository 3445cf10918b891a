-- A function that no refusal from 1 to 7 hits is ready, and what is ready fits the walk that gives places.
use Rattle.std.specs.Prelude.{Ok}
use Prim.Native.Nat.{ℕ, ◌+◌, ◌≤◌, ◌<◌}
use mathlib.Core.List.{List}
use mathlib.Core.Logic.{⊎_elim}
use mathlib.Core.Path.{◌≡◌, refl, sym, ap, ◌∙◌}
use native.Mathlib.Omega.{arith}
use lib.Dec.{eqb}
use Rattle.base.specs.Limits.{most_arguments, most_parameters}
use Rattle.base.proofs.Numbers.{pick-both, same?}
use Rattle.input.specs.Layout.{blocks, instructions, edges, constants, pool_from}
use Rattle.input.specs.Records.{param_count, first_instr, instr_count, term_kind, edge_count, term_x, term_y, jump, branch, branch_cmp_imm, branch_cmp, switch, instr_kind, instr_x, instr_y, lookup, edge_target}
use Rattle.input.specs.Forms.{term_forms, term_form}
use Rattle.input.proofs.Words.{Head, words_head, words_block, BlockFits, block-says, edges-switch, edges_other}
use Rattle.shape.specs.Shape.{row_shape}
use Rattle.fit.specs.Keys.{row_keys}
use Rattle.judge.specs.Judged.{unfit}
use Rattle.judge.proofs.Few.{counts-given}
use Rattle.judge.proofs.Shapes.{InShape, shape_given, rows-placed}
use Rattle.judge.proofs.Verdicts.{AllPass, fit-given}
use Rattle.assign.specs.Fits.{Fits}
use Rattle.ready.specs.Ready.{Live, InstrOf, KeysReady, Ready}
use Rattle.ready.proofs.Passes.{Passes, block_passes}
use Rattle.ready.proofs.Counted.{InstrFew, Counted, counted}
use Rattle.ready.proofs.Shaped.{TermShaped, term_shaped, entries_there}
use Rattle.ready.proofs.Keyed.{cases_near, entries_near}

-- every table ends where the pool starts, which is a word
record Small (ws : List ℕ) : Type 0 where
  few_instructions : instructions ws < 4294967296
  few_edges : edges ws < 4294967296
  few_constants : constants ws + 1 < 4294967296

small : (ws : List ℕ) → Head ws → pool_from ws < 4294967296 → Small ws
small ws h l =
    record {
      few_instructions = omega (arith, h.edges_at, h.constants_at, h.pool_starts_at);
      few_edges = omega (arith, h.constants_at, h.pool_starts_at);
      few_constants = omega (arith, h.blocks_at, h.instrs_at, h.edges_at, h.constants_at, h.pool_starts_at);
    }

-- ---- the edges of each kind of terminator
module _ (ws : List ℕ) (b : ℕ) (f : BlockFits ws b) where
  edges-by_form : (k : ℕ) → term_kind ws b ≡ k → k < switch → edge_count ws b ≡ term_form k 2
  edges-by_form k e l =
      edges_other ws b f (λ (q : term_kind ws b ≡ switch). omega (arith, e, q)) ∙ ap (λ (x : ℕ). term_form x 2) e

  jump-edge : term_kind ws b ≡ jump → edge_count ws b ≡ 1
  unfolding term_forms
  jump-edge e = edges-by_form jump e (omega arith)

  branch_edges : branch ≤ term_kind ws b → term_kind ws b ≤ branch_cmp → edge_count ws b ≡ 2
  unfolding term_forms
  branch_edges l h =
      ⊎_elim (λ (e : term_kind ws b ≡ branch). edges-by_form branch e (omega arith))
      (λ n.
      ⊎_elim (λ (e : term_kind ws b ≡ branch_cmp_imm). edges-by_form branch_cmp_imm e (omega arith))
      (λ m. edges-by_form branch_cmp (omega (arith, n, m)) (omega arith)) (same? (term_kind ws b) branch_cmp_imm))
      (same? (term_kind ws b) branch)

module _ (n : ℕ) (most : n ≤ 64) (ws functions : List ℕ) (word : pool_from ws < 4294967296) (none : unfit n ws functions ≡ 0) where
  all : AllPass n ws functions
  all = fit-given n ws functions (Ok tt) (sym none) refl

  tables : Small ws
  tables = small ws (words_head ws all.words) word

  shape : InShape ws
  shape = shape_given ws all.shape

  in-shape : (b : ℕ) → Live ws b → Passes (row_shape ws) ws b
  in-shape = block_passes (row_shape ws) ws shape.rows

  keyed : (b : ℕ) → Live ws b → Passes (row_keys ws) ws b
  keyed = block_passes (row_keys ws) ws all.keys

  few : Counted n ws
  few = counted n ws all.counts

  placed : (b : ℕ) → Live ws b → first_instr ws b + instr_count ws b ≤ instructions ws
  placed b l = rows-placed ws shape.rows b l.there l.is

  terms : (b : ℕ) → Live ws b → TermShaped ws b
  terms b l = term_shaped ws b (in-shape b l).of_term

  instr_few_of : (b i : ℕ) → InstrOf ws b i → InstrFew n ws i
  instr_few_of b i o = few.of_instr i (omega (arith, o.until, placed b o.block))

  fits_form : (b : ℕ) → Live ws b → BlockFits ws b
  fits_form b l = block-says ws b (words_block ws all.words b l.there)

  parameters : (b : ℕ) → b < blocks ws → param_count ws b ≤ 190
  parameters b l =
      pick-both (λ (m : ℕ). param_count ws b ≤ m → param_count ws b ≤ 190) (eqb b 0) (most_arguments n) most_parameters
      (λ h. omega arith) (λ h. h) (few.of_block b l).parameters

  case_keys_lem : (b : ℕ) → Live ws b → term_kind ws b ≡ switch → KeysReady ws 1 (term_x ws b) (term_y ws b)
  case_keys_lem b l e =
      let s = (few.of_block b l.there).cases e in
      record {
        some = s.least;
        few = s.most;
        within = omega (arith, (terms b l).cases_there e, tables.few_constants);
        near = cases_near ws _ b (keyed b l).of_term e;
      }

  entry-keys : (b i : ℕ) → InstrOf ws b i → instr_kind ws i ≡ lookup → KeysReady ws 2 (instr_x ws i) (instr_y ws i)
  entry-keys b i o e =
      let s = (instr_few_of b i o).entries e in
      record {
        some = s.least;
        few = s.most;
        within = omega (arith, entries_there ws i ((in-shape b o.block).of_instr i o) e, tables.few_constants);
        near = entries_near ws _ i ((keyed b o.block).of_instr i o) e;
      }

  pub ready : Ready ws
  ready =
      let f = counts-given n ws all.counts in
      record {
        few_values = f.few_values;
        few_blocks = f.few_blocks;
        few_rows = f.few_rows;
        few_arrive = omega (arith, (few.of_block 0 shape.some).parameters);
        few_parameters = λ b e o. parameters (edge_target ws e) ((terms b o.block).targets e o).there;
        few_arguments = λ b i o e. omega (arith, (instr_few_of b i o).arguments e);
        few_sys = λ b i o e. omega (arith, (instr_few_of b i o).sys_arguments e);
        few_tail = λ b l e. omega (arith, (few.of_block b l.there).arguments e);
        instrs = λ b l. omega (arith, placed b l, tables.few_instructions);
        edges = λ b l. omega (arith, (terms b l).edges_there, tables.few_edges);
        targets = λ b e o. (terms b o.block).targets e o;
        one_edge = λ b l e. jump-edge ws b (fits_form b l) e;
        two_edges = λ b l h k. branch_edges ws b (fits_form b l) h k;
        case_edges = λ b l e. edges-switch ws b (fits_form b l) e;
        cases = case_keys_lem;
        entries = entry-keys;
      }

pub fits : (ws : List ℕ) → Ready ws → Fits ws
fits ws r =
    record {
      parameters = r.few_arrive;
      rows = r.few_rows;
      instrs = λ b h l. r.instrs b (record { there = h; is = l });
      edges = λ b h l. r.edges b (record { there = h; is = l });
    }
