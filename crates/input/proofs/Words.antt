-- What words that pass refusal 1 say: of the head, of each record, and of its fields. Assumes nothing.
use mathlib.Core.Path.{◌≡◌, refl}
use mathlib.Core.Bool.{true}
use mathlib.Core.List.{List}
use Prim.Native.Nat.{ℕ, zero, suc, ◌+◌, ◌*◌, ◌≤◌, ◌<◌}
use native.Mathlib.Omega.{arith}
use borrow.Author.Tests.{ltb-true, leb-true, eqb-true, le-leb, eq-eqb, ne_eqb}
use lib.Dec.{eqb, ltb, leb}
use lib.ListN.{length}
use Rattle.base.specs.Choice.{pick}
use Rattle.input.specs.Layout.{head_words, value_words, block_words, instr_words, edge_words, constant_words, values, blocks, instructions, edges, constants, pooled, unused_mark, blocks_from, instrs_from, edges_from, constants_from, pool_from, constant_field}
use Rattle.input.specs.Records.{hint_of, tombstone, term_kind, term_span, term_operand_count, edge_count, term_x, term_y, instr_kind, instr_span, destination, operand_count, instr_x, instr_y, instr_z, constant_kind, payload_of, switch, noop, true_const}
use Rattle.input.specs.Forms.{any, head_ok, value_ok, instr_form, fits_count, instr_ok, term_form, edges_ok, term_ok, block_ok, constant_ok, each, words_ok}
use Rattle.input.proofs.Chain.{both-parts, seven_parts}
use Rattle.input.proofs.Each.{each_first}

-- The head: where each table stands, and that no table has more records than there are words.
pub record Head (ws : List ℕ) : Type 0 where
  pub passes : head_ok ws ≡ true
  pub mark : unused_mark ws ≤ 1
  pub blocks_at : blocks_from ws ≡ head_words + value_words * values ws
  pub instrs_at : instrs_from ws ≡ blocks_from ws + block_words * blocks ws
  pub edges_at : edges_from ws ≡ instrs_from ws + instr_words * instructions ws
  pub constants_at : constants_from ws ≡ edges_from ws + edge_words * edges ws
  pub pool_starts_at : pool_from ws ≡ constants_from ws + constant_words * constants ws
  pub ends : length ws ≡ pool_from ws + pooled ws
  pub values_le : values ws ≤ length ws
  pub blocks_le : blocks ws ≤ length ws
  pub instructions_le : instructions ws ≤ length ws
  pub edges_le : edges ws ≤ length ws
  pub constants_le : constants ws ≤ length ws
  pub pooled_le : pooled ws ≤ length ws

pub head-says : (ws : List ℕ) → head_ok ws ≡ true → Head ws
unfolding head_ok
head-says ws e =
    let s =
    seven_parts
    (leb (unused_mark ws) 1)
    (eqb (blocks_from ws) (head_words + value_words * values ws))
    (eqb (instrs_from ws) (blocks_from ws + block_words * blocks ws))
    (eqb (edges_from ws) (instrs_from ws + instr_words * instructions ws))
    (eqb (constants_from ws) (edges_from ws + edge_words * edges ws))
    (eqb (pool_from ws) (constants_from ws + constant_words * constants ws))
    (eqb (length ws) (pool_from ws + pooled ws))
    e in
    let a = eqb-true _ _ s.second in
    let b = eqb-true _ _ s.third in
    let d = eqb-true _ _ s.fourth in
    let f = eqb-true _ _ s.fifth in
    let g = eqb-true _ _ s.sixth in
    let h = eqb-true _ _ s.seventh in
    record {
      passes = e;
      mark = leb-true _ _ s.first;
      blocks_at = a;
      instrs_at = b;
      edges_at = d;
      constants_at = f;
      pool_starts_at = g;
      ends = h;
      values_le = omega arith;
      blocks_le = omega arith;
      instructions_le = omega arith;
      edges_le = omega arith;
      constants_le = omega arith;
      pooled_le = omega arith;
    }

-- the head, and each table with something to judge
record Tables (ws : List ℕ) : Type 0 where
  head : head_ok ws ≡ true
  each_value : each (value_ok ws) 0 (values ws) ≡ true
  each_block : each (block_ok ws) 0 (blocks ws) ≡ true
  each_instr : each (instr_ok ws) 0 (instructions ws) ≡ true
  each_constant : each (constant_ok ws) 0 (constants ws) ≡ true

tables : (ws : List ℕ) → words_ok ws ≡ true → Tables ws
unfolding words_ok
tables ws e =
    let p = both-parts (head_ok ws) _ e in
    let q = both-parts (each (value_ok ws) 0 (values ws)) _ p.1 in
    let r = both-parts (each (block_ok ws) 0 (blocks ws)) _ q.1 in
    let s = both-parts (each (instr_ok ws) 0 (instructions ws)) _ r.1 in
    record { head = p.0; each_value = q.0; each_block = r.0; each_instr = s.0; each_constant = s.1 }

pub words_head : (ws : List ℕ) → words_ok ws ≡ true → Head ws
words_head ws e = head-says ws (tables ws e).head

pub words_value : (ws : List ℕ) → words_ok ws ≡ true → (v : ℕ) → v < values ws → value_ok ws v ≡ true
words_value ws e = each_first (value_ok ws) (values ws) (tables ws e).each_value

pub words_block : (ws : List ℕ) → words_ok ws ≡ true → (b : ℕ) → b < blocks ws → block_ok ws b ≡ true
words_block ws e = each_first (block_ok ws) (blocks ws) (tables ws e).each_block

pub words_instr : (ws : List ℕ) → words_ok ws ≡ true → (i : ℕ) → i < instructions ws → instr_ok ws i ≡ true
words_instr ws e = each_first (instr_ok ws) (instructions ws) (tables ws e).each_instr

pub words_constant : (ws : List ℕ) → words_ok ws ≡ true → (c : ℕ) → c < constants ws → constant_ok ws c ≡ true
words_constant ws e = each_first (constant_ok ws) (constants ws) (tables ws e).each_constant

-- a value: a first hint is 0, or a register below 64 and 1
pub value_says : (ws : List ℕ) (v : ℕ) → value_ok ws v ≡ true → hint_of ws v ≤ 64
unfolding value_ok
value_says ws v e = leb-true (hint_of ws v) 64 e

-- An instruction: its kind, and each word by the form of the kind.
pub record InstrFits (ws : List ℕ) (i : ℕ) : Type 0 where
  pub kind : instr_kind ws i < 13
  pub has : instr_form (instr_kind ws i) 0 ≡ pick (eqb (destination ws i) 0) 0 1
  pub operands : fits_count (instr_form (instr_kind ws i) 1) (operand_count ws i) ≡ true
  pub x : instr_x ws i ≤ instr_form (instr_kind ws i) 2
  pub y : instr_y ws i ≤ instr_form (instr_kind ws i) 3
  pub z : instr_z ws i ≤ instr_form (instr_kind ws i) 4
  pub span : instr_kind ws i ≡ noop → instr_span ws i ≡ 0

pub instr_says : (ws : List ℕ) (i : ℕ) → instr_ok ws i ≡ true → InstrFits ws i
unfolding instr_ok
instr_says ws i e =
    let k = instr_kind ws i in
    let s =
    seven_parts
    (ltb k 13)
    (eqb (instr_form k 0) (pick (eqb (destination ws i) 0) 0 1))
    (fits_count (instr_form k 1) (operand_count ws i))
    (leb (instr_x ws i) (instr_form k 2))
    (leb (instr_y ws i) (instr_form k 3))
    (leb (instr_z ws i) (instr_form k 4))
    (pick (eqb k noop) (eqb (instr_span ws i) 0) true)
    e in
    record {
      kind = ltb-true _ _ s.first;
      has = eqb-true _ _ s.second;
      operands = s.third;
      x = leb-true _ _ s.fourth;
      y = leb-true _ _ s.fifth;
      z = leb-true _ _ s.sixth;
      span = λ (h : k ≡ noop). eqb-true _ _ (rw (eq-eqb k noop h) at s.seventh);
    }

-- as many as the form says, where it does not allow any number
pub fits_exactly : (form n : ℕ) → form < any → fits_count form n ≡ true → n ≡ form
fits_exactly form n h e = eqb-true n form (rw (ne_eqb form any (λ (q : form ≡ any). omega arith)) at e)

-- a destination where the form has one
pub has_some : (d : ℕ) → ◌≡◌ {A = ℕ} 1 (pick (eqb d 0) 0 1) → 0 < d
has_some zero e = absurd (omega arith)
has_some (suc d) e = omega arith

-- none where it has none
pub has_none : (d : ℕ) → ◌≡◌ {A = ℕ} 0 (pick (eqb d 0) 0 1) → d ≡ 0
has_none zero e = refl
has_none (suc d) e =
    let z : ◌≡◌ {A = ℕ} 0 1 = rw (ne_eqb (suc d) 0 (λ (q : suc d ≡ 0). omega arith)) at e in
    absurd (omega arith)

-- A block: its mark, its terminator's kind, and each word by the form of the kind.
pub record BlockFits (ws : List ℕ) (b : ℕ) : Type 0 where
  pub mark : tombstone ws b ≤ 1
  pub kind : term_kind ws b < 8
  pub fewest : term_form (term_kind ws b) 0 ≤ term_operand_count ws b
  pub most : term_operand_count ws b ≤ term_form (term_kind ws b) 1
  pub edges_of : edges_ok ws b ≡ true
  pub x : term_x ws b ≤ term_form (term_kind ws b) 3
  pub y : term_y ws b ≤ term_form (term_kind ws b) 4
  pub span : term_span ws b ≤ term_form (term_kind ws b) 5

pub block-says : (ws : List ℕ) (b : ℕ) → block_ok ws b ≡ true → BlockFits ws b
unfolding block_ok term_ok
block-says ws b e =
    let k = term_kind ws b in
    let p = both-parts (leb (tombstone ws b) 1) _ e in
    let s =
    seven_parts
    (ltb k 8)
    (leb (term_form k 0) (term_operand_count ws b))
    (leb (term_operand_count ws b) (term_form k 1))
    (edges_ok ws b)
    (leb (term_x ws b) (term_form k 3))
    (leb (term_y ws b) (term_form k 4))
    (leb (term_span ws b) (term_form k 5))
    p.1 in
    record {
      mark = leb-true _ _ p.0;
      kind = ltb-true _ _ s.first;
      fewest = leb-true _ _ s.second;
      most = leb-true _ _ s.third;
      edges_of = s.fourth;
      x = leb-true _ _ s.fifth;
      y = leb-true _ _ s.sixth;
      span = leb-true _ _ s.seventh;
    }

-- a Switch has an edge for each case and one for the default
pub edges-switch : (ws : List ℕ) (b : ℕ) → BlockFits ws b → term_kind ws b ≡ switch → edge_count ws b ≡ term_y ws b + 1
edges-switch ws b s h = eqb-true _ _ (rw (eq-eqb _ _ h) at s.edges_of)

-- every other terminator has as many as its form says
pub edges_other : (ws : List ℕ) (b : ℕ) → BlockFits ws b → (term_kind ws b ≡ switch → ⊥) → edge_count ws b ≡ term_form (term_kind ws b) 2
edges_other ws b s h = eqb-true _ _ (rw (ne_eqb _ _ h) at s.edges_of)

-- A constant: its kind, and no payload where the kind has none.
pub record ConstantFits (ws : List ℕ) (c : ℕ) : Type 0 where
  pub kind : constant_kind ws c < 6
  pub payload : constant_kind ws c ≤ true_const → payload_of ws c ≡ 0

pub constant-says : (ws : List ℕ) (c : ℕ) → constant_ok ws c ≡ true → ConstantFits ws c
unfolding constant_ok
constant-says ws c e =
    let k = constant_kind ws c in
    let p = both-parts (ltb k 6) _ e in
    record {
      kind = ltb-true _ _ p.0;
      payload = λ (h : k ≤ true_const).
          let q = both-parts (eqb (constant_field ws c 1) 0) (eqb (constant_field ws c 2) 0) (rw (le-leb k true_const h) at p.1) in
          omega (arith, eqb-true (constant_field ws c 1) 0 q.0, eqb-true (constant_field ws c 2) 0 q.1);
    }
