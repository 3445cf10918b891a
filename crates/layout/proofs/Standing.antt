-- A live block in the finished function: from its label through its instructions to its terminator.
use mathlib.Core.Path.{◌≡◌, refl, sym, ap, ◌∙◌}
use mathlib.Core.Logic.{◌≢◌, ⊎_elim}
use mathlib.Core.Bool.{true, false}
use Prim.Native.Nat.{ℕ, ◌+◌, ◌*◌, ◌-◌, ◌≤◌, ◌<◌}
use mathlib.Core.List.{List}
use native.Mathlib.Nat.{add-zero}
use native.Mathlib.Omega.{arith}
use borrow.Author.Tests.{eq-eqb}
use lib.ListN.{length, get_or, take, drop}
use lib.Seq.{drop_at}
use Rattle.base.specs.Choice.{pick}
use Rattle.base.specs.Emission.{Out, at_span, bind}
use Rattle.base.proofs.Numbers.{both}
use Rattle.input.specs.Layout.{blocks}
use Rattle.input.specs.Records as in_words
use Rattle.input.specs.Records.{first_instr, instr_count, instr_kind, instr_span, term_kind, term_span, term_operands, first_edge, edge_count, term_x, term_y, edge_target}
use Rattle.ready.specs.Ready.{Ready, Live}
use Rattle.lower.specs.Operands.{operand_reg, fetched}
use Rattle.edges.specs.Edges.{has_moves, pad_count}
use Rattle.tables.specs.Tables.{case_keys, slot_for, slot_count, switch_head, lookup_head, slots_in}
use Rattle.body.specs.declared.Tally.{Tally}
use Rattle.instrs.specs.Instrs.{Env, instr_ops, lookups_in, instrs_ops}
use Rattle.terms.specs.Terms.{term_place, switch_ops, term_ops}
use Rattle.body.specs.Body.{next_live, block_ops}
use Rattle.layout.specs.Layout.{block_pc, EdgeAt, InstrAt, BranchAt, LastOfKey, SwitchAt, TailAt, ReturnAt, BlockAt}
use Rattle.layout.proofs.Adding.{Adds, Any, Nil, Goes, stays, adds_then, adds_any, adds_nil, adds_fewer, adds_few, bind-ops, span_ops, bound_at}
use Rattle.layout.proofs.Instrs.{instr_going, instrs_going, instrs_split}
use Rattle.layout.proofs.Finish.{Finished, run_stands, run-straight}
use Rattle.layout.proofs.Leaving.{AllLeave}
use Rattle.layout.proofs.Edges.{edge_at, edge_bare}
use Rattle.layout.proofs.Branches.{branch_at}
use Rattle.layout.proofs.Pads.{switch-fetch, switch-op, switch_default, switch_pad}
use Rattle.layout.proofs.Terms.{term_adds, term_return, term_jump, term_tail, term_switch, term_branch, tail_at, tail-ends, return_at}
use Rattle.layout.proofs.Blocks.{Old, block, no, pad, pads_of, block-rest}

-- the slots of block b's table, from `start` on: the last case with a slot's key has it, else the default's block
pub record Slotted (env : Env) (F : Out) (targets : List ℕ) (label b start : ℕ) : Type 0 where
  pub case : (i : ℕ) → i < term_y env.ws b → LastOfKey env.ws b i
      → get_or targets (start + slot_for env.ws (case_keys env.ws b) (term_x env.ws b + i)) 0
      ≡ get_or F.labels (pick (has_moves env.ws env.places (first_edge env.ws b + i)) (label + pad_count env.ws env.places (first_edge env.ws b) i)
      (edge_target env.ws (first_edge env.ws b + i))) 0
  pub hole : (s : ℕ) → s < slot_count env.ws (case_keys env.ws b)
      → ((i : ℕ) → i < term_y env.ws b → slot_for env.ws (case_keys env.ws b) (term_x env.ws b + i) ≢ s)
      → get_or targets (start + s) 0 ≡ block_pc F (edge_target env.ws (first_edge env.ws b + term_y env.ws b))

module _ (n : ℕ) (env : Env) (known : (b : ℕ) → b < blocks env.ws → term_kind env.ws b < 8) (regs-few : n ≤ 256) (regs_two : 2 ≤ n) (ready : Ready env.ws)
    {regs : List ℕ} {from : ℕ} {B F : Out} (fin : Finished from B F) (exits : AllLeave regs from B F) (targets heads lookup_heads : List ℕ) (t : Tally) (b k : ℕ) (q : Out) (live : Live env.ws b) (h : from ≤ length q.ops)
    (y : Adds (Old (blocks env.ws) (b + 1) (t.label + pads_of env.ws env.places b)) (block_ops n env t b k q) B)
    (labelled : 2 * blocks env.ws ≤ t.label) (room : 2 * blocks env.ws ≤ length B.labels)
    (pads-room : t.label + pads_of env.ws env.places b ≤ length B.labels)
    (follows : next_live env.ws (b + 1) k < blocks env.ws → length (block_ops n env t b k q).ops ≡ block_pc F (next_live env.ws (b + 1) k))
    (start : ℕ) (slotted : term_kind env.ws b ≡ in_words.switch → Slotted env F targets t.label b start)
    (headed : term_kind env.ws b ≡ in_words.switch → take 3 (drop (3 * t.switches) heads) ≡ switch_head env.ws b start) (values : ℕ)
    (looked : (j : ℕ) → j < instr_count env.ws b → instr_kind env.ws (first_instr env.ws b + j) ≡ in_words.lookup
    → take 5 (drop (5 * (t.lookups + lookups_in env.ws (first_instr env.ws b) j)) lookup_heads)
    ≡ lookup_head env.ws (first_instr env.ws b + j) (values + slots_in env.ws (first_instr env.ws b) j)) where
  abbrev ws : List ℕ
  ws = env.ws

  abbrev places : List ℕ
  places = env.places

  abbrev bs : ℕ
  bs = blocks env.ws

  abbrev next : ℕ
  next = next_live env.ws (b + 1) k

  -- behind j instructions
  stage : ℕ → Out
  stage j = instrs_ops n env t.lookups (first_instr env.ws b) j (bind b q)

  abbrev Later : ℕ → Type 0
  Later = Old (blocks env.ws) (b + 1) (t.label + pads_of env.ws env.places b)

  block_is : block_ops n env t b k q ≡ term_ops n env t.switches t.label next b (stage (instr_count ws b))
  unfolding block_ops stage
  block_is = refl

  y_term : Adds Later (term_ops n env t.switches t.label next b (stage (instr_count ws b))) B
  y_term = rw block_is at y

  -- each stage adds to the next
  stage_zero : stage 0 ≡ bind b q
  unfolding stage instrs_ops
  stage_zero = refl

  stage_split : (i j : ℕ) → stage (i + j) ≡ instrs_ops n env (t.lookups + lookups_in ws (first_instr ws b) i) (first_instr ws b + i) j (stage i)
  unfolding stage
  stage_split i j = instrs_split n env t.lookups (first_instr ws b) i j (bind b q)

  stage_adds : (i j : ℕ) → Adds Any (stage i) (stage (i + j))
  stage_adds i j =
      rw (stage_split i j)
      ((instrs_going n env (t.lookups + lookups_in ws (first_instr ws b) i) (first_instr ws b + i) j).by (stays (stage i))).adds

  stage_first : length (stage 0).ops ≡ length q.ops
  stage_first = ap (λ (o : Out). length o.ops) stage_zero ∙ ap length (bind-ops q b)

  -- and all is in the body
  stage_in : (i : ℕ) → i ≤ instr_count ws b → Adds Nil (stage i) B
  stage_in i g =
      let e : i + (instr_count ws b - i) ≡ instr_count ws b = omega arith in
      adds_then (adds_any (rw e at (stage_adds i (instr_count ws b - i))))
      (adds_then
      (term_adds n env t.switches t.label next b (stage (instr_count ws b)) (known b live.there) (λ l z. absurd (omega arith)) (λ l z a c. omega arith))
      (adds_nil y_term))

  stage_from : (i : ℕ) → from ≤ length (stage i).ops
  stage_from i =
      let e : 0 + i ≡ i = omega arith in
      omega (arith, adds_few (rw e at (stage_adds 0 i)), stage_first)

  -- ---- the first op
  starts : length (stage 0).ops ≡ block_pc F b
  starts =
      let one : Adds (λ l. l ≡ b) (bind b q) B =
      adds_then (block-rest n env known t b k q live.there (λ l (p : l ≡ b) z. omega arith) (λ l (p : l ≡ b) a z. omega (arith, live.there)))
      (adds_fewer (λ l (p : l ≡ b). block (omega arith)) y) in
      stage_first ∙ sym (bound_at b q refl (omega (arith, live.there)) one) ∙ ap (λ (x : List ℕ). get_or x b 0) (sym fin.labels_same)

  -- ---- an instruction
  instr_at : (j : ℕ) → j < instr_count ws b → InstrAt n env F lookup_heads (first_instr ws b + j) (length (stage j).ops) (length (stage (j + 1)).ops)
  unfolding instrs_ops
  instr_at j g =
      let table : ℕ = t.lookups + lookups_in ws (first_instr ws b) j in
      let i : ℕ = first_instr ws b + j in
      let before : Out = at_span (instr_span ws i) (stage j) in
      let after : Out = instr_ops n env table i before in
      let same : stage (j + 1) ≡ after = stage_split j 1 in
      let long : length before.ops ≡ length (stage j).ops = ap length (span_ops (stage j) (instr_span ws i)) in
      let goes : Goes before after = (instr_going n env table i).by (stays before) in
      let z : Adds Nil after B = rw same at (stage_in (j + 1) (omega arith)) in
      let f : from ≤ length before.ops = omega (arith, stage_from j) in
      let rest : drop (length (stage j).ops) after.ops ≡ goes.adds.words =
      ap (drop (length (stage j).ops)) goes.adds.so ∙ drop_at before.ops goes.adds.words (length (stage j).ops) long in
      record {
        table = table;
        start = values + slots_in ws (first_instr ws b) j;
        head = looked j g;
        before = before;
        from = long;
        until = ap (λ (o : Out). length o.ops) (sym same);
        stands = rw (rest, ← long) (run_stands fin goes.adds z f goes.all);
        straight = λ at a c. run-straight fin goes.adds z f goes.all at (omega arith) (rw same at c);
      }

  -- ---- the terminator, at its span
  abbrev r : Out
  r = stage (instr_count env.ws b)

  abbrev s : Out
  s = at_span (term_span env.ws b) (stage (instr_count env.ws b))

  long : length s.ops ≡ length r.ops
  long = ap length (span_ops r (term_span ws b))

  s-from : from ≤ length s.ops
  s-from = omega (arith, long, stage_from (instr_count ws b))

  target_in : (i : ℕ) → i < edge_count ws b → edge_target ws (first_edge ws b + i) < bs
  target_in i g = (ready.targets b (first_edge ws b + i) (record { block = live; from = omega arith; until = omega arith })).there

  first_in : 0 < edge_count ws b → edge_target ws (first_edge ws b) < bs
  first_in g = let z : first_edge ws b + 0 ≡ first_edge ws b = add-zero (first_edge ws b) in rw z at (target_in 0 g)

  -- where a rule is the terminator's
  module _ {o : Out} (same : term_ops n env t.switches t.label next b (stage (instr_count env.ws b)) ≡ o) where
    y_is : Adds Later o B
    y_is = rw same at y_term

    follows_is : next < bs → length o.ops ≡ block_pc F next
    follows_is g = ap (λ (x : Out). length x.ops) (sym (block_is ∙ same)) ∙ follows g

  jump_at_lem : term_kind ws b ≡ in_words.jump → EdgeAt n env F (first_edge ws b) (length r.ops)
  jump_at_lem g =
      let same = term_jump n env t.switches t.label next b r g in
      let i : edge_target ws (first_edge ws b) < bs = first_in (omega (arith, ready.one_edge b live g)) in
      rw (← long)
      (edge_at n env fin next (first_edge ws b) s s-from (y_is same) (omega (arith, ready.few_blocks))
      (λ (e : edge_target ws (first_edge ws b) ≡ next). follows_is same (omega arith)))

  return_stands : term_kind ws b ≡ in_words.return → ReturnAt n env regs F b (length r.ops)
  return_stands g =
      let same = term_return n env t.switches t.label next b r g in
      rw (← long) (return_at n env fin exits b s s-from (y_is same))

  tail_stands : term_kind ws b ≡ in_words.tail_call → TailAt n env regs F b (length r.ops)
  tail_stands g =
      let f : ℕ = get_or env.functions (term_x ws b) 0 in
      let same = term_tail n env t.switches t.label next b r g in
      rw (← long)
      (record {
        shuffles = tail_at n env fin f (term_operands ws b) s s-from (y_is same);
        ends = tail-ends n env fin exits f (term_operands ws b) s s-from (y_is same);
      })

  branches_at : in_words.branch ≤ term_kind ws b → term_kind ws b ≤ in_words.branch_cmp → BranchAt n env F b (length r.ops)
  branches_at lo hi =
      let same = term_branch n env t.switches t.label next b r lo hi in
      let two = ready.two_edges b live lo hi in
      let there : b < bs = live.there in
      rw (← long)
      (branch_at n env fin regs-few regs_two next b s s-from (y_is same) (no (omega arith) (omega arith)) (omega arith) ready.few_blocks there
      (first_in (omega arith)) (target_in 1 (omega arith)) (follows_is same) lo hi)

  -- ---- Switch
  module _ (g : term_kind env.ws b ≡ in_words.switch) where
    count : ℕ
    count = pad_count ws places (first_edge ws b) (term_y ws b)

    pads_are : pads_of ws places b ≡ pad_count ws places (first_edge ws b) (term_y ws b)
    pads_are = rw (eq-eqb (term_kind ws b) in_words.switch g)

    switched : term_ops n env t.switches t.label next b (stage (instr_count env.ws b)) ≡ switch_ops n ws places t.switches t.label next b s
    switched = term_switch n env t.switches t.label next b r g

    mine : (l : ℕ) → t.label ≤ l → l < t.label + pad_count ws places (first_edge ws b) (term_y ws b) → Later l
    mine l x z = pad (omega (arith, labelled)) (omega (arith, pads_are))

    enough : t.label + pad_count ws places (first_edge ws b) (term_y ws b) ≤ length B.labels
    enough = omega (arith, pads_are, pads-room)

    each_in : (i : ℕ) → i ≤ term_y ws b → edge_target ws (first_edge ws b + i) < bs
    each_in i z = target_in i (omega (arith, ready.case_edges b live g))

    case_at : (i : ℕ) → i < term_y ws b → LastOfKey ws b i
        → EdgeAt n env F (first_edge ws b + i) (get_or targets (start + slot_for ws (case_keys ws b) (term_x ws b + i)) 0)
    case_at i z last =
        ⊎_elim
        (λ (m : has_moves ws places (first_edge ws b + i) ≡ true).
        rw ((slotted g).case i z last, m)
        (switch_pad n env fin ready.few_blocks t.switches t.label next b s s-from (y_is switched) mine enough each_in (follows_is switched) i z m))
        (λ (m : has_moves ws places (first_edge ws b + i) ≡ false).
        rw ((slotted g).case i z last, m) (edge_bare n env fin (first_edge ws b + i) m))
        (both (has_moves ws places (first_edge ws b + i)))

    switch_at : SwitchAt n env F targets heads b (length r.ops)
    switch_at =
        record {
          table = t.switches;
          start = start;
          head = headed g;
          reg = operand_reg n (term_place ws places b 0) s.last;
          at = length (fetched n (term_place ws places b 0) s).ops;
          fetches = rw (← long)
              (switch-fetch n env fin ready.few_blocks t.switches t.label next b s s-from (y_is switched) mine enough each_in (follows_is switched));
          switches = switch-op n env fin ready.few_blocks t.switches t.label next b s s-from (y_is switched) mine enough each_in (follows_is switched);
          default = switch_default n env fin ready.few_blocks t.switches t.label next b s s-from (y_is switched) mine enough each_in (follows_is switched);
          case = case_at;
          hole = (slotted g).hole;
        }

  pub block_at : BlockAt n env regs F targets heads lookup_heads b
  block_at =
      record {
        at = λ j. length (stage j).ops;
        starts = starts;
        instrs = instr_at;
        term = record { return = return_stands; jump = jump_at_lem; branch = branches_at; switch = switch_at; tail = tail_stands };
      }
