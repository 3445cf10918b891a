-- Ret and Tail in the finished function: they stand, or a frame has put a jump to its pops in their place.
use mathlib.Core.Path.{◌≡◌, refl, sym, ap, ◌∙◌}
use mathlib.Core.Logic.{◌≢◌, ⊎_elim}
use mathlib.Core.Bool.{false}
use Prim.Native.Nat.{ℕ, zero, suc, ◌+◌, ◌-◌, ◌≤◌, ◌<◌}
use mathlib.Core.List.{List, [], ◌∷◌, ◌++◌, append_assoc}
use native.Mathlib.Omega.{arith}
use borrow.Author.Tests.{eq-eqb, ne_eqb}
use lib.Dec.{eqb}
use lib.ListN.{length, get_or, set, length-append, length-set, get_or-append}
use lib.Seq.{get_or-set_same, get_or-append-add}
use Rattle.base.specs.Choice.{pick}
use Rattle.base.specs.Emission.{Out, emit}
use Rattle.base.proofs.Numbers.{lt?, same?}
use Rattle.base.proofs.Pens.{emit_all-ops}
use Rattle.op.specs.Words.{word, parts}
use Rattle.op.specs.Ops as op
use Rattle.op.specs.Targets.{is_jump}
use Rattle.frame.specs.Frames.{patch, op_at, resolved_word, epilogue, entered, frame_op, frame_ops, left, framed}
use Rattle.frame.proofs.Lengths.{code_at, stub, frame-ret, frame-tail, ops_grow, ended, ended-ops}
use Rattle.frame.proofs.Joining.{resolved, framed_none, framed-some}
use Rattle.layout.specs.Layout.{Stands, Leaves, plain, by_jump, by_nop}
use Rattle.layout.proofs.Straight.{code-word}
use Rattle.layout.proofs.Finish.{frame_past, resolved_at, long_same, resolved_other, stands_by}

-- a word by which control leaves
pub data Exit (w : ℕ) : Type 0 where
  by_ret : w ≡ word op.ret → Exit w
  by_tail : (parts w).code ≡ 14 → Exit w

ret-code : (parts (word op.ret)).code ≡ 33
ret-code = code-word op.ret (omega arith)

-- resolution leaves it
exit_other : {w : ℕ} → Exit w → is_jump (parts w).code ≡ false
exit_other (by_ret e) = rw (e, ret-code)
exit_other (by_tail e) = rw e

module _ (regs : List ℕ) (end : ℕ) where
  -- what leaves a frame: its pops, and w
  abbrev out_by : ℕ → List ℕ
  out_by w = epilogue regs ++ (w ∷ [])

  -- other ops stay
  frames_past : (pc k i : ℕ) (o : Out) → ((j : ℕ) → pc ≤ j → j < pc + k → i ≢ j) → i < length o.ops → op_at (frame_ops regs end pc k o) i ≡ op_at o i
  unfolding frame_ops
  frames_past pc zero i o d h = refl
  frames_past pc (suc k) i o d h =
      frames_past (pc + 1) k i (frame_op regs end pc o) (λ j a c. d j (omega arith) (omega arith))
      (omega (arith, ops_grow regs end pc 1 o))
      ∙ frame_past regs end pc i o (d pc (omega arith) (omega arith)) h

  -- words stand from `at` on
  record There (l : List ℕ) (at : ℕ) (o : Out) : Type 0 where
    pub room : at + length l ≤ length o.ops
    pub is : (m : ℕ) → m < length l → op_at o (at + m) ≡ get_or l m 0

  -- behind the body they stay
  there_on : {l : List ℕ} {at : ℕ} (pc k : ℕ) (o : Out) → pc + k ≤ at → There l at o → There l at (frame_ops regs end pc k o)
  there_on {at = at} pc k o h t =
      record {
        room = omega (arith, t.room, ops_grow regs end pc k o);
        is = λ m g. frames_past pc k (at + m) o (λ j a c (e : at + m ≡ j). omega arith) (omega (arith, t.room)) ∙ t.is m g;
      }

  there_stands : {l : List ℕ} {at : ℕ} {o : Out} → There l at o → Stands o.ops at l
  there_stands {l} {at} {o} t = stands_by o.ops l at t.room t.is

  -- behind a list
  there_behind : (l : List ℕ) {at : ℕ} (o : Out) (before : List ℕ) → o.ops ≡ before ++ l → length before ≡ at → There l at o
  there_behind l {at} o before e n =
      let s : length (before ++ l) ≡ length before + length l = length-append before l in
      let z : length o.ops ≡ length (before ++ l) = ap length e in
      record {
        room = omega arith;
        is = λ m g. ap (λ (x : List ℕ). get_or x (at + m) 0) e ∙ ap (λ (x : ℕ). get_or (before ++ l) (x + m) 0) (sym n) ∙ get_or-append-add before l m 0;
      }

  -- one op: Ret, ..
  module _ (framed : 0 < length regs) (pc k : ℕ) (o : Out) (w : ℕ) (is : op_at o pc ≡ w) (ends : pc + suc k ≡ end) (there : There (out_by (word op.ret)) end o) where
    inside : pc < length o.ops
    inside = omega (arith, there.room)

    -- the op itself is done at once
    done_at : op_at (frame_ops regs end pc (suc k) o) pc ≡ op_at (frame_op regs end pc o) pc
    unfolding frame_ops
    done_at =
        frames_past (pc + 1) k pc (frame_op regs end pc o) (λ j a c (e : pc ≡ j). omega arith) (omega (arith, inside, ops_grow regs end pc 1 o))

    ret-leaves : w ≡ word op.ret → Leaves regs (frame_ops regs end pc (suc k) o) w pc
    unfolding patch
    ret-leaves e =
        let x : ℕ = word (pick (eqb (pc + 1) end) op.nop (op.jmp end)) in
        let c : code_at o pc ≡ 33 = ap (λ (v : ℕ). (parts v).code) (is ∙ e) ∙ ret-code in
        let at : op_at (frame_ops regs end pc (suc k) o) pc ≡ x =
        done_at ∙ ap (λ (q : Out). op_at q pc) (frame-ret regs end pc o (eq-eqb (code_at o pc) 33 c)) ∙ get_or-set_same o.ops pc x 0 inside in
        let st : Stands (frame_ops regs end pc (suc k) o).ops end (out_by (word op.ret)) = there_stands (there_on pc (suc k) o (omega arith) there) in
        rw e
        (⊎_elim
        (λ (q : pc + 1 ≡ end). by_nop framed (at ∙ rw (eq-eqb (pc + 1) end q)) (rw q st))
        (λ (q : pc + 1 ≢ end). by_jump framed end (at ∙ rw (ne_eqb (pc + 1) end q)) st)
        (same? (pc + 1) end))

    -- .. and Tail
    stub-ops : (stub regs pc o).ops ≡ set o.ops pc (word (op.jmp (length o.ops))) ++ out_by (op_at o pc)
    unfolding emit patch
    stub-ops =
        ap (λ (l : List ℕ). l ++ (op_at o pc ∷ [])) (emit_all-ops (epilogue regs) (patch pc (word (op.jmp (length o.ops))) o))
        ∙ append_assoc (set o.ops pc (word (op.jmp (length o.ops)))) (epilogue regs) (op_at o pc ∷ [])

    tail-leaves : (parts w).code ≡ 14 → Leaves regs (frame_ops regs end pc (suc k) o) w pc
    unfolding frame_ops
    tail-leaves e =
        let x : ℕ = word (op.jmp (length o.ops)) in
        let c : code_at o pc ≡ 14 = ap (λ (v : ℕ). (parts v).code) is ∙ e in
        let same : frame_op regs end pc o ≡ stub regs pc o =
        frame-tail regs end pc o (ne_eqb (code_at o pc) 33 (λ (q : code_at o pc ≡ 33). omega arith)) (eq-eqb (code_at o pc) 14 c) in
        let all : (frame_op regs end pc o).ops ≡ set o.ops pc x ++ out_by w =
        ap (λ (q : Out). q.ops) same ∙ stub-ops ∙ ap (λ (y : ℕ). set o.ops pc x ++ out_by y) is in
        let n : length (set o.ops pc x) ≡ length o.ops = length-set o.ops pc x in
        let at : op_at (frame_op regs end pc o) pc ≡ x =
        ap (λ (l : List ℕ). get_or l pc 0) all ∙ get_or-append (set o.ops pc x) (out_by w) 0 pc (omega (arith, inside, n))
        ∙ get_or-set_same o.ops pc x 0 inside in
        by_jump framed (length o.ops) (done_at ∙ at)
        (there_stands (there_on (pc + 1) k (frame_op regs end pc o) (omega (arith, there.room)) (there_behind (out_by w) (frame_op regs end pc o) (set o.ops pc x) all n)))

    op-leaves : Exit w → Leaves regs (frame_ops regs end pc (suc k) o) w pc
    op-leaves (by_ret e) = ret-leaves e
    op-leaves (by_tail e) = tail-leaves e

  -- each of k ops
  frames_leave : 0 < length regs → (pc k i : ℕ) (o : Out) (w : ℕ) → pc ≤ i → i < pc + k → pc + k ≡ end → There (out_by (word op.ret)) end o
      → op_at o i ≡ w → Exit w → Leaves regs (frame_ops regs end pc k o) w i
  unfolding frame_ops
  frames_leave framed pc zero i o w lo hi ends t is x = absurd (omega arith)
  frames_leave framed pc (suc k) i o w lo hi ends t is x =
      ⊎_elim
      (λ (e : i ≡ pc). rw e (op-leaves framed pc k o w (rw e at is) ends t x))
      (λ (d : i ≢ pc).
      frames_leave framed (pc + 1) k i (frame_op regs end pc o) w (omega (arith, d)) (omega arith) (omega arith) (there_on pc 1 o (omega arith) t)
      (frame_past regs end pc i o d (omega (arith, t.room)) ∙ is) x)
      (same? i pc)

-- so does every Ret and Tail of the body B, whose ops start at `from`, in the finished function F
abbrev pub AllLeave : List ℕ → ℕ → Out → Out → Type 0
AllLeave regs from B F = (pc w : ℕ) → from ≤ pc → pc < length B.ops → op_at B pc ≡ w → Exit w → Leaves regs F w pc

pub leaving : (regs : List ℕ) (span : ℕ) (body : Out → Out) (o : Out)
    → AllLeave regs (length (entered regs o).ops) (body (entered regs o)) (framed regs span body o)
unfolding left
leaving regs span body o pc w lo hi is x =
    let R : Out = resolved regs body o in
    let from : ℕ = length (entered regs o).ops in
    let long : length R.ops ≡ length (body (entered regs o)).ops = long_same regs span body o in
    let e : op_at R pc ≡ w =
    resolved_at regs span body o pc lo hi ∙ ap (resolved_word (body (entered regs o)).labels) is ∙ resolved_other (body (entered regs o)).labels w (exit_other x) in
    ⊎_elim
    (λ (h : 0 < length regs).
    let ops : (ended regs span R).ops ≡ R.ops ++ (epilogue regs ++ (word op.ret ∷ [])) =
    ended-ops regs span R ∙ append_assoc R.ops (epilogue regs) (word op.ret ∷ []) in
    rw (framed-some regs span body o h)
    (frames_leave regs (length R.ops) h from (length R.ops - from) pc (ended regs span R) w lo (omega arith) (omega arith)
    (there_behind regs (length R.ops) (epilogue regs ++ (word op.ret ∷ [])) (ended regs span R) R.ops ops refl)
    (ap (λ (l : List ℕ). get_or l pc 0) ops ∙ get_or-append R.ops (epilogue regs ++ (word op.ret ∷ [])) 0 pc (omega arith) ∙ e) x))
    (λ (h : length regs ≤ 0). rw (framed_none regs span body o h) (plain (omega arith) e))
    (lt? 0 (length regs))
