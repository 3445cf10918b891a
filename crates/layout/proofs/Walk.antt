-- The blocks and the switch tables of a function, walked together: every live block stands, and every pad has a label.
use mathlib.Core.Path.{◌≡◌, sym, ap, ◌∙◌}
use mathlib.Core.Logic.{◌≢◌, ⊎_elim}
use mathlib.Core.Bool.{true, false}
use Prim.Native.Nat.{ℕ, zero, suc, ◌+◌, ◌*◌, ◌≤◌, ◌<◌, min}
use mathlib.Core.List.{List, ◌++◌}
use native.Mathlib.Nat.{add-zero, add-mul, one-mul, mul-le-mul_right}
use native.Mathlib.Omega.{arith}
use borrow.Author.Tests.{eq-eqb, ne_eqb}
use lib.ListN.{length, get_or, take, drop}
use Rattle.base.specs.Choice.{pick}
use Rattle.base.specs.Emission.{Out}
use Rattle.base.proofs.Numbers.{both, same?}
use Rattle.input.specs.Layout.{blocks, edges}
use Rattle.input.specs.Records as in_words
use Rattle.input.specs.Records.{is_live, term_kind, first_edge, edge_count, term_x, term_y}
use Rattle.ready.specs.Ready.{Ready, Live}
use Rattle.edges.specs.Edges.{pad_count}
use Rattle.tables.specs.Tables.{slot_count, slot_for, case_keys, switch_head, switch_slots, has_switch, switch_heads, switch_targets}
use Rattle.body.specs.declared.Tally.{Tally}
use Rattle.instrs.specs.Instrs.{Env}
use Rattle.body.specs.Body.{is_switch, next_live, tallied, block_ops, blocks_ops}
use Rattle.layout.specs.Layout.{BlockAt}
use Rattle.layout.proofs.Adding.{Adds, Any, adds_then, adds_any, adds_fewer, adds_few}
use Rattle.layout.proofs.Finish.{Finished}
use Rattle.layout.proofs.Leaving.{AllLeave}
use Rattle.layout.proofs.Pads.{count_few}
use Rattle.layout.proofs.Slots.{slots_long, slot_in, slots_case, slots_hole, targets_some, targets_none, targets_keep, targets_more}
use Rattle.layout.proofs.Heads.{heads_some, heads_none, head_long, heads_first}
use Rattle.layout.proofs.Lookups.{Looked, looked_dead, looked_live, looked_at}
use Rattle.layout.proofs.Blocks.{Old, old_more, pads_of, tallied-label, tallied_switches, tallied_lookups, block_long, block_adds, blocks-live, blocks-dead, blocks_add, next_bound}
use Rattle.layout.proofs.Standing.{Slotted, block_at}

-- ---- the switch tables
-- those of k blocks from b on are left to be put: their slots behind l, their heads behind m, the next pad's label being `label`, and the next
-- table's number `table`
pub record Tabled (ws map whole heads : List ℕ) (slots b k label table : ℕ) : Type 0 where
  pub start : ℕ
  pub l : List ℕ
  pub long : length l ≡ start
  pub behind : slots ≤ start
  pub rest : switch_targets ws map start label b k l ≡ whole
  pub m : List ℕ
  pub m_long : length m ≡ 3 * table
  pub m_rest : switch_heads ws start b k m ≡ heads

module _ {ws map whole heads : List ℕ} {slots b k label table : ℕ} (T : Tabled ws map whole heads slots b (suc k) label table) where
  tabled_other : has_switch ws b ≡ false → Tabled ws map whole heads slots (b + 1) k label table
  tabled_other h =
      record {
        start = T.start;
        l = T.l;
        long = T.long;
        behind = T.behind;
        rest = sym (targets_none ws map T.start label b k T.l h) ∙ T.rest;
        m = T.m;
        m_long = T.m_long;
        m_rest = sym (heads_none ws T.start b k T.m h) ∙ T.m_rest;
      }

  tabled-switch : has_switch ws b ≡ true → Tabled ws map whole heads slots (b + 1) k (label + pad_count ws map (first_edge ws b) (term_y ws b)) (table + 1)
  tabled-switch h =
      record {
        start = T.start + slot_count ws (case_keys ws b);
        l = switch_slots ws map T.start label b T.l;
        long = slots_long ws map T.start label b T.l T.long;
        behind = omega (arith, T.behind);
        rest = sym (targets_some ws map T.start label b k T.l h) ∙ T.rest;
        m = T.m ++ switch_head ws b T.start;
        m_long = head_long ws T.start b table T.m T.m_long;
        m_rest = sym (heads_some ws T.start b k T.m h) ∙ T.m_rest;
      }

  tabled-dead : is_live ws b ≡ false → Tabled ws map whole heads slots (b + 1) k label table
  tabled-dead h = tabled_other (rw h)

  tabled-live : is_live ws b ≡ true → Tabled ws map whole heads slots (b + 1) k (label + pads_of ws map b) (table + pick (is_switch ws b) 1 0)
  tabled-live h =
      ⊎_elim
      (λ (s : is_switch ws b ≡ true). rw s (tabled-switch (rw (h, s))))
      (λ (s : is_switch ws b ≡ false). rw (s, add-zero label, add-zero table) (tabled_other (rw (h, s))))
      (both (is_switch ws b))

  -- what the whole has in this block's table
  whole_at : has_switch ws b ≡ true → (s : ℕ) → s < slot_count ws (case_keys ws b)
      → get_or whole (T.start + s) 0 ≡ get_or (switch_slots ws map T.start label b T.l) (T.start + s) 0
  whole_at h s g =
      ap (λ (x : List ℕ). get_or x (T.start + s) 0) (sym T.rest ∙ targets_some ws map T.start label b k T.l h)
      ∙ targets_keep ws map (T.start + slot_count ws (case_keys ws b)) (label + pad_count ws map (first_edge ws b) (term_y ws b)) (b + 1) k
      (switch_slots ws map T.start label b T.l) (slots_long ws map T.start label b T.l T.long) (T.start + s) (omega arith)

  -- and what the heads have of it
  headed : has_switch ws b ≡ true → take 3 (drop (3 * table) heads) ≡ switch_head ws b T.start
  headed h = ap (λ (x : List ℕ). take 3 (drop (3 * table) x)) (sym T.m_rest) ∙ heads_first ws T.start b k table T.m T.m_long h

  -- the whole has all slots of this block's table
  whole_long : has_switch ws b ≡ true → T.start + slot_count ws (case_keys ws b) ≤ length whole
  whole_long h =
      let e = ap length (sym T.rest ∙ targets_some ws map T.start label b k T.l h) in
      let m = targets_more ws map (T.start + slot_count ws (case_keys ws b)) (label + pad_count ws map (first_edge ws b) (term_y ws b)) (b + 1) k
      (switch_slots ws map T.start label b T.l) (slots_long ws map T.start label b T.l T.long) in
      omega (arith, e, m)

-- its slots once they are resolved
slotted : (env : Env) {F : Out} {targets whole heads : List ℕ} {slots b k label table : ℕ} (T : Tabled env.ws env.places whole heads slots b (suc k) label table)
    → ((t : ℕ) → slots ≤ t → t < length whole → get_or targets t 0 ≡ get_or F.labels (get_or whole t 0) 0) → has_switch env.ws b ≡ true
    → Slotted env F targets label b T.start
slotted env {F} {targets} {whole} {heads} {slots} {b} {k} {label} T f h =
    let ws : List ℕ = env.ws in
    let within = whole_long T h in
    record {
      case = λ i g last.
          f (T.start + slot_for ws (case_keys ws b) (term_x ws b + i)) (omega (arith, T.behind))
          (omega (arith, within, slot_in ws env.places T.start label b T.l T.long i g))
          ∙ ap (λ (x : ℕ). get_or F.labels x 0)
          (whole_at T h (slot_for ws (case_keys ws b) (term_x ws b + i)) (slot_in ws env.places T.start label b T.l T.long i g)
          ∙ slots_case ws env.places T.start label b T.l T.long i g last);
      hole = λ s g none.
          f (T.start + s) (omega (arith, T.behind)) (omega (arith, within))
          ∙ ap (λ (x : ℕ). get_or F.labels x 0)
          (whole_at T h s g ∙ slots_hole ws env.places T.start label b T.l T.long s g none);
    }

-- ---- the walk
-- pads so far: at most so many for each block, and two ops for each
pub record Few (env : Env) (b label ops : ℕ) : Type 0 where
  pub from : 2 * blocks env.ws ≤ label
  pub by_blocks : label ≤ 2 * blocks env.ws + b * edges env.ws
  pub by_ops : 2 * label ≤ 4 * blocks env.ws + ops

module _ (n : ℕ) (env : Env) (known : (b : ℕ) → b < blocks env.ws → term_kind env.ws b < 8) (regs-few : n ≤ 256) (regs_two : 2 ≤ n) (ready : Ready env.ws)
    (edges_there : (b : ℕ) → Live env.ws b → first_edge env.ws b + edge_count env.ws b ≤ edges env.ws) where
  -- a block's pads are no more than all edges
  pads_few : (b : ℕ) → Live env.ws b → pads_of env.ws env.places b ≤ edges env.ws
  pads_few b live =
      ⊎_elim
      (λ (s : term_kind env.ws b ≡ in_words.switch).
      rw (eq-eqb (term_kind env.ws b) in_words.switch s)
      (omega (arith, count_few env.ws env.places (first_edge env.ws b) (term_y env.ws b), edges_there b live, ready.case_edges b live s)))
      (λ (s : term_kind env.ws b ≢ in_words.switch). rw (ne_eqb (term_kind env.ws b) in_words.switch s) (omega arith))
      (same? (term_kind env.ws b) in_words.switch)

  -- behind a block there are still few
  few_on : (t : Tally) (b k : ℕ) (q : Out) → Live env.ws b → Few env b t.label (length q.ops)
      → Few env (b + 1) (t.label + pads_of env.ws env.places b) (length (block_ops n env t b k q).ops)
  few_on t b k q live f =
      let m : (b + 1) * edges env.ws ≡ b * edges env.ws + edges env.ws = add-mul b 1 (edges env.ws) ∙ rw (one-mul (edges env.ws)) in
      let p = pads_few b live in
      let l = block_long n env known t b k q live ready in
      record { from = omega (arith, f.from); by_blocks = omega (arith, m, p, f.by_blocks); by_ops = omega (arith, l, f.by_ops) }

  few_dead : (b label ops : ℕ) → Few env b label ops → Few env (b + 1) label ops
  few_dead b label ops f =
      let m : (b + 1) * edges env.ws ≡ b * edges env.ws + edges env.ws = add-mul b 1 (edges env.ws) ∙ rw (one-mul (edges env.ws)) in
      record { from = f.from; by_blocks = omega (arith, m, f.by_blocks); by_ops = f.by_ops }

  module _ {regs : List ℕ} {start : ℕ} {B F : Out} (fin : Finished start B F) (exits : AllLeave regs start B F) (targets whole heads lookup_heads : List ℕ) (slots : ℕ)
      (resolves : (t : ℕ) → slots ≤ t → t < length whole → get_or targets t 0 ≡ get_or F.labels (get_or whole t 0) 0)
      (room : 2 * blocks env.ws + min (blocks env.ws * edges env.ws) 32767 ≤ length B.labels) (short : length B.ops ≤ 65534) where
    -- so every pad has a label
    labels_enough : (b label ops : ℕ) → b ≤ blocks env.ws → Few env b label ops → ops ≤ length B.ops → label ≤ length B.labels
    labels_enough b label ops h f g =
        let m : b * edges env.ws ≤ blocks env.ws * edges env.ws = mul-le-mul_right (edges env.ws) h in
        let x : label ≤ 2 * blocks env.ws + blocks env.ws * edges env.ws = omega (arith, f.by_blocks) in
        let y : label ≤ 2 * blocks env.ws + 32767 = omega (arith, f.by_ops) in
        omega (arith, x, y, room)

    -- the block at hand
    here : (t : Tally) (b k : ℕ) (q : Out) → b + suc k ≡ blocks env.ws → start ≤ length q.ops → Few env b t.label (length q.ops)
        → Adds Any (blocks_ops n env t b (suc k) q) B → Tabled env.ws env.places whole heads slots b (suc k) t.label t.switches
        → Looked env.ws lookup_heads b (suc k) t.lookups → is_live env.ws b ≡ true → BlockAt n env regs F targets heads lookup_heads b
    here t b k q h g f y T L live =
        let l : Live env.ws b = record { there = omega arith; is = live } in
        let t' : Tally = tallied env.ws env.places b t in
        let e : t'.label ≡ t.label + pads_of env.ws env.places b = tallied-label env.ws env.places b t in
        let r : Out = block_ops n env t b k q in
        let y' : Adds Any (blocks_ops n env t' (b + 1) k r) B = rw (blocks-live n env known t b k q live) at y in
        let f' = few_on t b k q l f in
        let adds : Adds (Old (blocks env.ws) (b + 1) (t.label + pads_of env.ws env.places b)) r B =
        adds_then (adds_fewer (λ m p. old_more (omega arith) (omega (arith, e)) p) (blocks_add n env known t' (b + 1) k r (omega arith) (omega (arith, f.from, e))))
        (adds_any y') in
        let long : blocks env.ws ≤ length (blocks_ops n env t' (b + 1) k r).labels = omega (arith, y'.many, room) in
        block_at n env known regs-few regs_two ready fin exits targets heads lookup_heads t b k q l g adds f.from (omega (arith, room))
        (labels_enough (b + 1) (t.label + pads_of env.ws env.places b) (length r.ops) (omega arith) f' (adds_few adds))
        (λ (i : next_live env.ws (b + 1) k < blocks env.ws).
        sym (next_bound n env known t' (b + 1) k r (omega arith) (omega (arith, f.from, e)) long i)
        ∙ sym (y'.kept (next_live env.ws (b + 1) k) (omega arith))
        ∙ ap (λ (x : List ℕ). get_or x (next_live env.ws (b + 1) k) 0) (sym fin.labels_same))
        T.start (λ (s : term_kind env.ws b ≡ in_words.switch). slotted env T resolves (rw (live, eq-eqb (term_kind env.ws b) in_words.switch s)))
        (λ (s : term_kind env.ws b ≡ in_words.switch). headed T (rw (live, eq-eqb (term_kind env.ws b) in_words.switch s)))
        L.start (looked_at L live)

    pub walk : (t : Tally) (b k : ℕ) (q : Out) → b + k ≡ blocks env.ws → start ≤ length q.ops → Few env b t.label (length q.ops)
        → Adds Any (blocks_ops n env t b k q) B → Tabled env.ws env.places whole heads slots b k t.label t.switches
        → Looked env.ws lookup_heads b k t.lookups → (c : ℕ) → b ≤ c → c < b + k → is_live env.ws c ≡ true → BlockAt n env regs F targets heads lookup_heads c
    walk t b zero q h g f y T L c i j live = absurd (omega arith)
    walk t b (suc k) q h g f y T L c i j live =
        ⊎_elim
        (λ (e : c ≡ b). rw e (here t b k q h g f y T L (rw e at live)))
        (λ (d : c ≢ b).
        ⊎_elim
        (λ (on : is_live env.ws b ≡ true).
        let e : (tallied env.ws env.places b t).label ≡ t.label + pads_of env.ws env.places b = tallied-label env.ws env.places b t in
        let r : Out = block_ops n env t b k q in
        let l : Live env.ws b = record { there = omega arith; is = on } in
        let more : length q.ops ≤ length r.ops = adds_few (block_adds n env known t b k q (omega arith) f.from) in
        walk (tallied env.ws env.places b t) (b + 1) k r (omega arith) (omega arith) (rw e (few_on t b k q l f)) (rw (blocks-live n env known t b k q on) at y)
        (rw (e, tallied_switches env.ws env.places b t) (tabled-live T on))
        (rw (tallied_lookups env.ws env.places b t) (looked_live L on)) c (omega (arith, d)) (omega arith) live)
        (λ (off : is_live env.ws b ≡ false).
        walk t (b + 1) k q (omega arith) g (few_dead b t.label (length q.ops) f) (rw (blocks-dead n env known t b k q off) at y) (tabled-dead T off)
        (looked_dead L off) c (omega (arith, d)) (omega arith) live)
        (both (is_live env.ws b)))
        (same? c b)
