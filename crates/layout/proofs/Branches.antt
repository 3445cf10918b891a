-- A branch in the finished function: its jump, its yes edge behind the jump, and its no edge where the jump goes.
use mathlib.Core.Path.{◌≡◌, sym, ap, ◌∙◌}
use mathlib.Core.Logic.{◌≢◌, ⊎_elim}
use mathlib.Core.Bool.{true, false}
use Prim.Native.Nat.{ℕ, ◌+◌, ◌≤◌, ◌<◌}
use mathlib.Core.List.{List}
use native.Mathlib.Nat.{add-zero}
use native.Mathlib.Omega.{arith}
use lib.ListN.{length, get_or}
use Rattle.base.specs.Emission.{Out, emit, bind}
use Rattle.base.proofs.Numbers.{both, same?}
use Rattle.op.specs.declared.Op.{Op}
use Rattle.op.specs.Words.{word}
use Rattle.op.specs.Ops as op
use Rattle.op.specs.Targets.{aimed}
use Rattle.input.specs.Layout.{blocks}
use Rattle.input.specs.Records as in_words
use Rattle.input.specs.Records.{term_kind, first_edge, term_y, edge_target}
use Rattle.lower.specs.Operands.{operand_reg, fetched}
use Rattle.edges.specs.Edges.{has_moves, nowhere, edge, jump_at, branch}
use Rattle.instrs.specs.Instrs.{Env}
use Rattle.terms.specs.Terms.{term_place, branch_ops}
use Rattle.layout.specs.Layout.{EdgeAt, block_pc, BranchOp, on_false, on_other, on_unequal, BranchAt}
use Rattle.layout.proofs.Adding.{Adds, Any, Nil, stays, adds_then, adds_any, adds_nil, adds_emit, adds_bind, adds_few, emit_long, bind-ops, bound_at, between_at}
use Rattle.layout.proofs.Instrs.{by-fetch}
use Rattle.layout.proofs.Finish.{Finished, JumpOp, jump_there}
use Rattle.layout.proofs.Fetches.{operand_small, slots_apart, fetch_at}
use Rattle.layout.proofs.Edges.{edge_adds, edge_at, edge_bare}

module _ (n : ℕ) (ws places : List ℕ) (jump : Op) (label next e : ℕ) (q : Out) where
  branch-moves : has_moves ws places e ≡ true
      → branch n ws places jump label next e q
      ≡ edge n ws places next e (bind label (edge n ws places (nowhere ws) (e + 1) (emit (jump_at jump label) q)))
  unfolding branch
  branch-moves h = rw h

  branch-plain : has_moves ws places e ≡ false
      → branch n ws places jump label next e q ≡ edge n ws places next (e + 1) (emit (jump_at jump (edge_target ws e)) q)
  unfolding branch
  branch-plain h = rw h

  -- it adds ops, and binds its label alone
  branch_adds : {P : ℕ → Type 0} → ((l : ℕ) → P l → l ≢ label) → Adds P q (branch n ws places jump label next e q)
  branch_adds f =
      ⊎_elim
      (λ (h : has_moves ws places e ≡ true).
      rw (branch-moves h)
      (adds_then
      (adds_any (adds_then (adds_emit q (jump_at jump label)) (edge_adds n ws places (e + 1) (nowhere ws) (emit (jump_at jump label) q))))
      (adds_then (adds_bind (edge n ws places (nowhere ws) (e + 1) (emit (jump_at jump label) q)) label f)
      (adds_any (edge_adds n ws places e next (bind label (edge n ws places (nowhere ws) (e + 1) (emit (jump_at jump label) q))))))))
      (λ (h : has_moves ws places e ≡ false).
      rw (branch-plain h)
      (adds_any
      (adds_then (adds_emit q (jump_at jump (edge_target ws e))) (edge_adds n ws places (e + 1) next (emit (jump_at jump (edge_target ws e)) q)))))
      (both (has_moves ws places e))

module _ (n : ℕ) (env : Env) {from : ℕ} {B F : Out} (fin : Finished from B F) where
  abbrev ws : List ℕ
  ws = env.ws

  abbrev places : List ℕ
  places = env.places

  -- the jump at pc, and the two edges
  record Branched (jump : Op) (e pc : ℕ) : Type 0 where
    pub no_pc : ℕ
    pub jumps : get_or F.ops pc 0 ≡ word (aimed no_pc jump)
    pub no : EdgeAt n env F e no_pc
    pub yes : EdgeAt n env F (e + 1) (pc + 1)

  module _ {P : ℕ → Type 0} (jump : Op) (is : JumpOp jump) (label next e : ℕ) (q : Out) (h : from ≤ length q.ops)
      (y : Adds P (branch n ws places jump label next e q) B) (p : P label) (room : label < length B.labels) (small : label < 65536)
      (few : blocks ws ≤ 1024) (no-in : edge_target ws e < blocks ws) (yes-in : edge_target ws (e + 1) < blocks ws)
      (follows : next < blocks ws → length (branch n ws places jump label next e q).ops ≡ block_pc F next) where
    jump_at_lem : {Q : ℕ → Type 0} (L : ℕ) → L < 65536 → Adds Q (emit (jump_at jump L) q) B → get_or F.ops (length q.ops) 0 ≡ word (aimed (get_or F.labels L 0) jump)
    unfolding adds_emit
    jump_at_lem L s z =
        let x : Adds Any q (emit (jump_at jump L) q) = adds_emit q (jump_at jump L) in
        let e0 : length q.ops + 0 ≡ length q.ops = add-zero (length q.ops) in
        jump_there fin (length q.ops) h (omega (arith, adds_few z, emit_long (jump_at jump L) q)) L jump is s
        (rw e0 at (between_at x z 0 (omega arith)))

    with-moves : has_moves ws places e ≡ true → Branched jump e (length q.ops)
    with-moves m =
        let r1 : Out = emit (jump_at jump label) q in
        let r2 : Out = edge n ws places (nowhere ws) (e + 1) r1 in
        let r3 : Out = bind label r2 in
        let same : branch n ws places jump label next e q ≡ edge n ws places next e r3 = branch-moves n ws places jump label next e q m in
        let y4 : Adds P (edge n ws places next e r3) B = rw same at y in
        let y3 : Adds P r3 B = adds_then (adds_any (edge_adds n ws places e next r3)) y4 in
        let y2 : Adds Nil r2 B = adds_then (adds_bind r2 label (λ l z. absurd (omega arith))) (adds_nil y3) in
        let y1 : Adds Nil r1 B = adds_then (adds_any (edge_adds n ws places (e + 1) (nowhere ws) r1)) y2 in
        let l1 : length r1.ops ≡ length q.ops + 1 = emit_long (jump_at jump label) q in
        let l3 : length r3.ops ≡ length r2.ops = ap length (bind-ops r2 label) in
        let more : length r1.ops ≤ length r2.ops = adds_few (edge_adds n ws places (e + 1) (nowhere ws) r1) in
        let at : get_or F.labels label 0 ≡ length r3.ops =
        ap (λ (x : List ℕ). get_or x label 0) fin.labels_same ∙ bound_at label r2 p room y3 ∙ sym l3 in
        let here : EdgeAt n env F e (length r3.ops) =
        edge_at n env fin next e r3 (omega arith) y4 (omega arith)
        (λ (g : edge_target ws e ≡ next). ap (λ (x : Out). length x.ops) (sym same) ∙ follows (omega arith)) in
        let there : EdgeAt n env F (e + 1) (length r1.ops) =
        edge_at n env fin (nowhere ws) (e + 1) r1 (omega arith) y2 (omega arith) (λ (g : edge_target ws (e + 1) ≡ nowhere ws). absurd (omega arith)) in
        record { no_pc = get_or F.labels label 0; jumps = jump_at_lem label small y1; no = rw at here; yes = rw (← l1) there }

    without-moves : has_moves ws places e ≡ false → Branched jump e (length q.ops)
    without-moves m =
        let r1 : Out = emit (jump_at jump (edge_target ws e)) q in
        let same : branch n ws places jump label next e q ≡ edge n ws places next (e + 1) r1 = branch-plain n ws places jump label next e q m in
        let y2 : Adds P (edge n ws places next (e + 1) r1) B = rw same at y in
        let y1 : Adds P r1 B = adds_then (adds_any (edge_adds n ws places (e + 1) next r1)) y2 in
        let l1 : length r1.ops ≡ length q.ops + 1 = emit_long (jump_at jump (edge_target ws e)) q in
        let there : EdgeAt n env F (e + 1) (length r1.ops) =
        edge_at n env fin next (e + 1) r1 (omega arith) y2 (omega arith)
        (λ (g : edge_target ws (e + 1) ≡ next). ap (λ (x : Out). length x.ops) (sym same) ∙ follows (omega arith)) in
        record {
          no_pc = block_pc F (edge_target ws e);
          jumps = jump_at_lem (edge_target ws e) (omega arith) y1;
          no = edge_bare n env fin e m;
          yes = rw (← l1) there;
        }

    branched : Branched jump e (length q.ops)
    branched = ⊎_elim with-moves without-moves (both (has_moves ws places e))

-- ---- the three kinds
module _ (n : ℕ) (ws places : List ℕ) (next b : ℕ) (q : Out) where
  abbrev label : ℕ
  label = blocks ws + b

  abbrev first : ℕ
  first = term_place ws places b 0

  abbrev second : ℕ
  second = term_place ws places b 1

  kind_false : term_kind ws b ≡ in_words.branch
      → branch_ops n ws places next b q ≡ branch n ws places (op.jmp_f (operand_reg n first q.last) 0) label next (first_edge ws b) (fetched n first q)
  unfolding branch_ops
  kind_false k = rw k

  kind_other : term_kind ws b ≡ in_words.branch_cmp_imm
      → branch_ops n ws places next b q
      ≡ branch n ws places (op.jmp_ne_i (operand_reg n first q.last) (term_y ws b) 0) label next (first_edge ws b) (fetched n first q)
  unfolding branch_ops
  kind_other k = rw k

  kind_unequal : term_kind ws b ≡ in_words.branch_cmp
      → branch_ops n ws places next b q
      ≡ branch n ws places (op.jmp_s_ne (operand_reg n first q.last) (operand_reg n second (fetched n first q).last) 0) label next (first_edge ws b)
      (fetched n second (fetched n first q))
  unfolding branch_ops
  kind_unequal k = rw k

  -- all add ops, and bind the block's second label alone
  pub branches_add : {P : ℕ → Type 0} → in_words.branch ≤ term_kind ws b → term_kind ws b ≤ in_words.branch_cmp → ((l : ℕ) → P l → l ≢ blocks ws + b)
      → Adds P q (branch_ops n ws places next b q)
  branches_add lo hi f =
      ⊎_elim
      (λ (k : term_kind ws b ≡ in_words.branch).
      rw (kind_false k) (adds_then (adds_any (by-fetch n first (stays q)).adds) (branch_adds n ws places _ label next (first_edge ws b) (fetched n first q) f)))
      (λ (k : term_kind ws b ≢ in_words.branch).
      ⊎_elim
      (λ (k' : term_kind ws b ≡ in_words.branch_cmp_imm).
      rw (kind_other k') (adds_then (adds_any (by-fetch n first (stays q)).adds) (branch_adds n ws places _ label next (first_edge ws b) (fetched n first q) f)))
      (λ (k' : term_kind ws b ≢ in_words.branch_cmp_imm).
      rw (kind_unequal (omega (arith, k, k')))
      (adds_then (adds_any (by-fetch n second (by-fetch n first (stays q))).adds)
      (branch_adds n ws places _ label next (first_edge ws b) (fetched n second (fetched n first q)) f)))
      (same? (term_kind ws b) in_words.branch_cmp_imm))
      (same? (term_kind ws b) in_words.branch)

module _ (n : ℕ) (env : Env) {from : ℕ} {B F : Out} (fin : Finished from B F) (regs-few : n ≤ 256) (regs_two : 2 ≤ n) {P : ℕ → Type 0} (next b : ℕ) (q : Out)
    (h : from ≤ length q.ops) (y : Adds P (branch_ops n env.ws env.places next b q) B) (p : P (blocks env.ws + b))
    (room : blocks env.ws + b < length B.labels) (few : blocks env.ws ≤ 1024) (there : b < blocks env.ws)
    (no-in : edge_target env.ws (first_edge env.ws b) < blocks env.ws) (yes-in : edge_target env.ws (first_edge env.ws b + 1) < blocks env.ws)
    (follows : next < blocks env.ws → length (branch_ops n env.ws env.places next b q).ops ≡ block_pc F next) where
  -- behind the fetches of its operands
  from-op : (jump : Op) → JumpOp jump → (q' : Out) → (Adds Nil q' B → BranchOp n env F b (length q.ops) (length q'.ops) jump)
      → length q.ops ≤ length q'.ops
      → branch_ops n env.ws env.places next b q ≡ branch n env.ws env.places jump (blocks env.ws + b) next (first_edge env.ws b) q'
      → BranchAt n env F b (length q.ops)
  from-op jump is q' by more same =
      let y' : Adds P (branch n env.ws env.places jump (blocks env.ws + b) next (first_edge env.ws b) q') B = rw same at y in
      let z : Adds Nil q' B =
      adds_then (branch_adds n env.ws env.places jump (blocks env.ws + b) next (first_edge env.ws b) q' {P = Nil} (λ l x. absurd (omega arith))) (adds_nil y') in
      let r = branched n env fin jump is (blocks env.ws + b) next (first_edge env.ws b) q' (omega arith) y' p room (omega arith) few no-in yes-in
      (λ (k : next < blocks env.ws). ap (λ (x : Out). length x.ops) (sym same) ∙ follows k) in
      record {
        jump = jump;
        at = length q'.ops;
        by = by z;
        no_pc = r.no_pc;
        jumps = r.jumps;
        no = r.no;
        yes = r.yes;
      }

  pub branch_at : in_words.branch ≤ term_kind env.ws b → term_kind env.ws b ≤ in_words.branch_cmp → BranchAt n env F b (length q.ops)
  branch_at lo hi =
      let x : ℕ = term_place env.ws env.places b 0 in
      let x' : ℕ = term_place env.ws env.places b 1 in
      let f : Out = fetched n x q in
      let f' : Out = fetched n x' f in
      let r : ℕ = operand_reg n x q.last in
      let r' : ℕ = operand_reg n x' f.last in
      let s : r < 256 = operand_small n x q.last regs-few in
      let s' : r' < 256 = operand_small n x' f.last regs-few in
      let m : length q.ops ≤ length f.ops = adds_few (by-fetch n x (stays q)).adds in
      let m' : length f.ops ≤ length f'.ops = adds_few (by-fetch n x' (stays f)).adds in
      ⊎_elim
      (λ (k : term_kind env.ws b ≡ in_words.branch).
      from-op (op.jmp_f r 0) (record { low = omega arith; high = omega arith; a_fits = s; b_fits = omega arith; c_fits = omega arith }) f
      (λ z. on_false r k (fetch_at fin n x q h z)) m (kind_false n env.ws env.places next b q k))
      (λ (k : term_kind env.ws b ≢ in_words.branch).
      ⊎_elim
      (λ (k' : term_kind env.ws b ≡ in_words.branch_cmp_imm).
      from-op (op.jmp_ne_i r (term_y env.ws b) 0) (record { low = omega arith; high = omega arith; a_fits = s; b_fits = omega arith; c_fits = omega arith }) f
      (λ z. on_other r k' (fetch_at fin n x q h z)) m (kind_other n env.ws env.places next b q k'))
      (λ (k' : term_kind env.ws b ≢ in_words.branch_cmp_imm).
      let k'' : term_kind env.ws b ≡ in_words.branch_cmp = omega (arith, k, k') in
      from-op (op.jmp_s_ne r r' 0) (record { low = omega arith; high = omega arith; a_fits = s; b_fits = s'; c_fits = omega arith }) f'
      (λ z.
      on_unequal r r' (length f.ops) k'' (fetch_at fin n x q h (adds_then (adds_any (by-fetch n x' (stays f)).adds) z))
      (fetch_at fin n x' f (omega arith) z) (slots_apart n regs-few regs_two x x' q))
      (omega arith) (kind_unequal n env.ws env.places next b q k''))
      (same? (term_kind env.ws b) in_words.branch_cmp_imm))
      (same? (term_kind env.ws b) in_words.branch)
