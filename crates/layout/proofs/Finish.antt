-- What a word of the body is in the finished function: a jump's label has become its pc, Ret and Tail are the frame's, and every other word stands.
use mathlib.Core.Path.{◌≡◌, refl, ap, ◌∙◌}
use mathlib.Core.Logic.{◌≢◌, ⊎_elim}
use mathlib.Core.Bool.{Bool, true, false}
use Prim.Native.Nat.{ℕ, zero, suc, ◌+◌, ◌-◌, ◌/◌, ◌%◌, ◌≤◌, ◌<◌}
use mathlib.Core.List.{List}
use native.Mathlib.Omega.{arith}
use borrow.Author.Tests.{ne_eqb, lt-ltb}
use lib.Dec.{eqb}
use lib.ListN.{length, get_or, take, drop, length-set, length-drop}
use lib.Seq.{get_or-set_same, get_or-set_other, get_or-take, get_or-drop, ext_get_or, length-take-le}
use Rattle.base.specs.Choice.{pick}
use Rattle.base.specs.Emission.{Out, emit, emit_all, at_span}
use Rattle.base.proofs.Numbers.{lt?, same?, pick_true, pick-both}
use Rattle.base.proofs.Pens.{emit_all_labels}
use Rattle.op.specs.declared.Op.{Op}
use Rattle.op.specs.Words.{word, parts}
use Rattle.op.specs.Ops as op
use Rattle.op.specs.Targets.{is_jump, in_bytes, target_of, aimed}
use Rattle.frame.specs.Frames.{patch, op_at, resolved_word, resolve, epilogue, entered, frame_op, frame_ops, left, framed}
use Rattle.frame.proofs.Resolving.{length-resolve}
use Rattle.frame.proofs.Lengths.{code_at, op_grows, frame-ret, frame-tail, frame_other}
use Rattle.frame.proofs.Joining.{resolved, framed_none, framed-some, framed_grows}
use Rattle.layout.specs.Layout.{goes_on, Stands}
use Rattle.layout.proofs.Straight.{code-word, parts_bytes, AllGo, all_at}
use Rattle.layout.proofs.Adding.{Adds, Any, adds_then, adds_all, adds_emit, adds_span, adds_few, old_at, between_at, adds_long}

-- a word that a frame leaves as it is: no Ret, no Tail
pub record Left (w : ℕ) : Type 0 where
  pub no_ret : eqb (parts w).code 33 ≡ false
  pub no_tail : eqb (parts w).code 14 ≡ false

-- ---- resolution
resolve_labels : (pc k : ℕ) (o : Out) → (resolve pc k o).labels ≡ o.labels
unfolding resolve patch
resolve_labels pc zero o = refl
resolve_labels pc (suc k) o = resolve_labels (pc + 1) k (patch pc (resolved_word o.labels (op_at o pc)) o)

resolve-before : (pc k i : ℕ) (o : Out) → i < pc → get_or (resolve pc k o).ops i 0 ≡ get_or o.ops i 0
unfolding resolve patch
resolve-before pc zero i o h = refl
resolve-before pc (suc k) i o h =
    resolve-before (pc + 1) k i (patch pc (resolved_word o.labels (op_at o pc)) o) (omega arith)
    ∙ get_or-set_other o.ops pc i (resolved_word o.labels (op_at o pc)) 0 (λ (e : i ≡ pc). omega arith)

resolve_at_lem : (pc k i : ℕ) (o : Out) → pc ≤ i → i < pc + k → i < length o.ops
    → get_or (resolve pc k o).ops i 0 ≡ resolved_word o.labels (get_or o.ops i 0)
unfolding resolve patch
resolve_at_lem pc zero i o h g m = absurd (omega arith)
resolve_at_lem pc (suc k) i o h g m =
    ⊎_elim
    (λ (e : i ≡ pc).
    rw e
    (resolve-before (pc + 1) k pc (patch pc (resolved_word o.labels (op_at o pc)) o) (omega arith)
    ∙ get_or-set_same o.ops pc (resolved_word o.labels (op_at o pc)) 0 (omega arith)))
    (λ (e : i ≢ pc).
    resolve_at_lem (pc + 1) k i (patch pc (resolved_word o.labels (op_at o pc)) o) (omega arith) (omega arith) (rw length-set m)
    ∙ ap (resolved_word o.labels) (get_or-set_other o.ops pc i (resolved_word o.labels (op_at o pc)) 0 e))
    (same? i pc)

aimed-code : (pc : ℕ) (o : Op) → (aimed pc o).code ≡ o.code
unfolding aimed
aimed-code pc o = pick-both (λ (x : Op). x.code ≡ o.code) (in_bytes o.code) _ _ refl refl

parts_small : (w : ℕ) → (parts w).code < 256
unfolding parts
parts_small w = omega arith

-- it leaves the opcode
resolved-code : (labels : List ℕ) (w : ℕ) → (parts (resolved_word labels w)).code ≡ (parts w).code
unfolding resolved_word
resolved-code labels w =
    pick-both (λ (x : ℕ). (parts x).code ≡ (parts w).code) (is_jump (parts w).code) _ _
    (let a = aimed-code (get_or labels (target_of (parts w)) 0) (parts w) in
    code-word (aimed (get_or labels (target_of (parts w)) 0) (parts w)) (rw a (parts_small w)) ∙ a)
    refl

-- ---- the frame
frame_labels : (regs : List ℕ) (end pc : ℕ) (o : Out) → (frame_op regs end pc o).labels ≡ o.labels
unfolding frame_op patch emit
frame_labels regs end pc o =
    pick-both (λ (x : Out). x.labels ≡ o.labels) (eqb (code_at o pc) 33) _ _ refl
    (pick-both (λ (x : Out). x.labels ≡ o.labels) (eqb (code_at o pc) 14) _ _
    (emit_all_labels (epilogue regs) (patch pc (word (op.jmp (length o.ops))) o)) refl)

frames_labels : (regs : List ℕ) (end pc k : ℕ) (o : Out) → (frame_ops regs end pc k o).labels ≡ o.labels
unfolding frame_ops
frames_labels regs end pc zero o = refl
frames_labels regs end pc (suc k) o = frames_labels regs end (pc + 1) k (frame_op regs end pc o) ∙ frame_labels regs end pc o

-- an op of the frame changes its own alone
pub frame_past : (regs : List ℕ) (end pc i : ℕ) (o : Out) → i ≢ pc → i < length o.ops → op_at (frame_op regs end pc o) i ≡ op_at o i
unfolding patch emit
frame_past regs end pc i o d h = go (eqb (code_at o pc) 33) refl (eqb (code_at o pc) 14) refl
  where
    go : (x : Bool) → eqb (code_at o pc) 33 ≡ x → (y : Bool) → eqb (code_at o pc) 14 ≡ y → op_at (frame_op regs end pc o) i ≡ op_at o i
    go true e y f = rw (frame-ret regs end pc o e) (get_or-set_other o.ops pc i _ 0 d)
    go false e true f =
        let p : Out = patch pc (word (op.jmp (length o.ops))) o in
        let a : Adds Any p (emit (op_at o pc) (emit_all (epilogue regs) p)) = adds_then (adds_all p (epilogue regs)) (adds_emit (emit_all (epilogue regs) p) (op_at o pc)) in
        rw (frame-tail regs end pc o e f)
        (old_at a i (rw length-set h) ∙ get_or-set_other o.ops pc i _ 0 d)
    go false e false f = rw (frame_other regs end pc o e f)

frame_keeps : (regs : List ℕ) (end pc i : ℕ) (o : Out) → i < length o.ops → Left (op_at o i) → op_at (frame_op regs end pc o) i ≡ op_at o i
frame_keeps regs end pc i o h l =
    ⊎_elim
    (λ (e : i ≡ pc). let l' : Left (op_at o pc) = rw e at l in rw (e, frame_other regs end pc o l'.no_ret l'.no_tail))
    (λ (d : i ≢ pc). frame_past regs end pc i o d h)
    (same? i pc)

frames_keep : (regs : List ℕ) (end pc k i : ℕ) (o : Out) → i < length o.ops → Left (op_at o i) → op_at (frame_ops regs end pc k o) i ≡ op_at o i
unfolding frame_ops
frames_keep regs end pc zero i o h l = refl
frames_keep regs end pc (suc k) i o h l =
    let e : op_at (frame_op regs end pc o) i ≡ op_at o i = frame_keeps regs end pc i o h l in
    frames_keep regs end (pc + 1) k i (frame_op regs end pc o) (omega (arith, op_grows regs end pc o)) (rw e l) ∙ e

module _ (regs : List ℕ) (span pc : ℕ) (o : Out) where
  ended_adds : Adds Any o (emit (word op.ret) (emit_all (epilogue regs) (at_span span o)))
  ended_adds = adds_then (adds_span o span) (adds_then (adds_all (at_span span o) (epilogue regs)) (adds_emit (emit_all (epilogue regs) (at_span span o)) (word op.ret)))

  left_keeps : (i : ℕ) → i < length o.ops → Left (op_at o i) → op_at (left regs span pc o) i ≡ op_at o i
  unfolding left
  left_keeps i h l =
      let e : op_at (emit (word op.ret) (emit_all (epilogue regs) (at_span span o))) i ≡ op_at o i = old_at ended_adds i h in
      frames_keep regs (length o.ops) pc (length o.ops - pc) i (emit (word op.ret) (emit_all (epilogue regs) (at_span span o)))
      (omega (arith, adds_few ended_adds)) (rw e l)
      ∙ e

  left_labels : (left regs span pc o).labels ≡ o.labels
  unfolding left emit at_span
  left_labels =
      frames_labels regs (length o.ops) pc (length o.ops - pc) (emit (word op.ret) (emit_all (epilogue regs) (at_span span o)))
      ∙ emit_all_labels (epilogue regs) (at_span span o)

-- ---- the body B, whose ops start at `from`, in the finished function F
pub record Finished (from : ℕ) (B F : Out) : Type 0 where
  pub labels_same : F.labels ≡ B.labels
  pub long : length B.ops ≤ length F.ops
  pub at : (pc : ℕ) → from ≤ pc → pc < length B.ops → Left (op_at B pc) → op_at F pc ≡ resolved_word B.labels (op_at B pc)

module _ (regs : List ℕ) (span : ℕ) (body : Out → Out) (o : Out) where
  abbrev from : ℕ
  from = length (entered regs o).ops

  abbrev B : Out
  B = body (entered regs o)

  pub resolved_at : (pc : ℕ) → length (entered regs o).ops ≤ pc → pc < length (body (entered regs o)).ops
      → op_at (resolved regs body o) pc ≡ resolved_word (body (entered regs o)).labels (op_at (body (entered regs o)) pc)
  resolved_at pc h g = resolve_at_lem from (length B.ops - from) pc B h (omega arith) g

  resolved-left : (pc : ℕ) → from ≤ pc → pc < length B.ops → Left (op_at B pc) → Left (op_at (resolved regs body o) pc)
  resolved-left pc h g l =
      let c : (parts (op_at (resolved regs body o) pc)).code ≡ (parts (op_at B pc)).code =
      ap (λ (x : ℕ). (parts x).code) (resolved_at pc h g) ∙ resolved-code B.labels (op_at B pc) in
      record { no_ret = rw c l.no_ret; no_tail = rw c l.no_tail }

  pub long_same : length (resolved regs body o).ops ≡ length (body (entered regs o)).ops
  long_same = length-resolve from (length B.ops - from) B

  labels_resolved : (resolved regs body o).labels ≡ B.labels
  labels_resolved = resolve_labels from (length B.ops - from) B

  pub finished : Finished (length (entered regs o).ops) (body (entered regs o)) (framed regs span body o)
  finished =
      ⊎_elim
      (λ (h : 0 < length regs).
      rw (framed-some regs span body o h)
      (record {
        labels_same = left_labels regs span from (resolved regs body o) ∙ labels_resolved;
        long = rw (← framed-some regs span body o h) (framed_grows regs span body o);
        at = λ pc a c l.
            left_keeps regs span from (resolved regs body o) pc (omega (arith, long_same)) (resolved-left pc a c l) ∙ resolved_at pc a c;
      }))
      (λ (h : length regs ≤ 0).
      rw (framed_none regs span body o h)
      (record { labels_same = labels_resolved; long = omega (arith, long_same); at = λ pc a c l. resolved_at pc a c }))
      (lt? 0 (length regs))

-- ---- the kinds of words
-- what a word that goes on is not
not-any : (a b c d e : Bool) → pick a false (pick b false (pick c false (pick d false (pick e false true)))) ≡ true
    → (a ≡ false) × (c ≡ false) × (d ≡ false)
not-any true b c d e h = let z : ◌≡◌ {A = ℕ} 0 1 = cc in absurd (omega arith)
not-any false true c d e h = let z : ◌≡◌ {A = ℕ} 0 1 = cc in absurd (omega arith)
not-any false false true d e h = let z : ◌≡◌ {A = ℕ} 0 1 = cc in absurd (omega arith)
not-any false false false true e h = let z : ◌≡◌ {A = ℕ} 0 1 = cc in absurd (omega arith)
not-any false false false false e h = (refl, refl, refl)

goes_parts : (w : ℕ) → goes_on w ≡ true → (is_jump (parts w).code ≡ false) × (eqb (parts w).code 14 ≡ false) × (eqb (parts w).code 33 ≡ false)
goes_parts w h =
    not-any (is_jump (parts w).code) (eqb (parts w).code 12) (eqb (parts w).code 14) (eqb (parts w).code 33) (eqb (parts w).code 1) h

pub resolved_other : (labels : List ℕ) (w : ℕ) → is_jump (parts w).code ≡ false → resolved_word labels w ≡ w
unfolding resolved_word
resolved_other labels w e = rw e

-- a jump, without its target
pub record JumpOp (j : Op) : Type 0 where
  pub low : 4 < j.code
  pub high : j.code < 12
  pub a_fits : j.a < 256
  pub b_fits : j.b < 256
  pub c_fits : j.c < 256

module _ (L : ℕ) (j : Op) (is : JumpOp j) (small : L < 65536) where
  aimed-parts : parts (word (aimed L j)) ≡ aimed L j
  unfolding aimed
  aimed-parts =
      pick-both (λ (x : Op). parts (word x) ≡ x) (in_bytes j.code) _ _
      (parts_bytes (op.op j.code j.a (L % 256) (L / 256 % 256) j.w) (omega arith) is.a_fits (omega arith) (omega arith))
      (parts_bytes (op.op j.code j.a j.b j.c L) (omega arith) is.a_fits is.b_fits is.c_fits)

  aimed_target : target_of (aimed L j) ≡ L
  unfolding aimed target_of
  aimed_target = go (in_bytes j.code) refl
    where
      go : (t : Bool) → in_bytes j.code ≡ t → target_of (aimed L j) ≡ L
      go true e = let q : L / 256 % 256 ≡ L / 256 = omega arith in rw (e, e, q) (omega arith)
      go false e = rw (e, e)

  aimed-again : (pc : ℕ) → aimed pc (aimed L j) ≡ aimed pc j
  unfolding aimed
  aimed-again pc = go (in_bytes j.code) refl
    where
      go : (t : Bool) → in_bytes j.code ≡ t → aimed pc (aimed L j) ≡ aimed pc j
      go true e = rw (e, e)
      go false e = rw (e, e)

  aimed_is : (aimed L j).code ≡ j.code
  aimed_is = aimed-code L j

  -- its label becomes the label's pc
  resolved-jump : (labels : List ℕ) → resolved_word labels (word (aimed L j)) ≡ word (aimed (get_or labels L 0) j)
  unfolding resolved_word
  resolved-jump labels =
      let t : is_jump (parts (word (aimed L j))).code ≡ true = rw (aimed-parts, aimed_is, lt-ltb 4 j.code is.low, lt-ltb j.code 12 is.high) in
      pick_true _ _ _ t ∙ rw (aimed-parts, aimed_target, aimed-again (get_or labels L 0))

  jump-left : Left (word (aimed L j))
  jump-left =
      record {
        no_ret = rw (aimed-parts, aimed_is) (ne_eqb j.code 33 (λ (e : j.code ≡ 33). omega arith));
        no_tail = rw (aimed-parts, aimed_is) (ne_eqb j.code 14 (λ (e : j.code ≡ 14). omega arith));
      }

-- ---- words of the body that are known
module _ {from : ℕ} {B F : Out} (f : Finished from B F) (pc : ℕ) (h : from ≤ pc) (g : pc < length B.ops) where
  -- one that goes on stands
  pub goes_there : goes_on (op_at B pc) ≡ true → op_at F pc ≡ op_at B pc
  goes_there e =
      let p = goes_parts (op_at B pc) e in
      f.at pc h g (record { no_ret = p.2; no_tail = p.1 }) ∙ resolved_other B.labels (op_at B pc) p.0

  -- a jump has its label's pc
  pub jump_there : (L : ℕ) (j : Op) → JumpOp j → L < 65536 → op_at B pc ≡ word (aimed L j) → op_at F pc ≡ word (aimed (get_or F.labels L 0) j)
  jump_there L j is small e =
      f.at pc h g (rw e (jump-left L j is small)) ∙ rw (e, f.labels_same) (resolved-jump L j is small B.labels)

  -- a Switch stands
  pub switch_there : (r t : ℕ) → op_at B pc ≡ word (op.switch r t) → op_at F pc ≡ word (op.switch r t)
  switch_there r t e =
      let c : (parts (op_at B pc)).code ≡ 12 = rw e (code-word (op.switch r t) (omega arith)) in
      f.at pc h g (record { no_ret = rw c; no_tail = rw c }) ∙ resolved_other B.labels (op_at B pc) (rw c) ∙ e

-- a list stands where each of its elements does
pub stands_by : (ops l : List ℕ) (pc : ℕ) → pc + length l ≤ length ops → ((k : ℕ) → k < length l → get_or ops (pc + k) 0 ≡ get_or l k 0) → Stands ops pc l
stands_by ops l pc h f =
    let n : length (take (length l) (drop pc ops)) ≡ length l = length-take-le (length l) (drop pc ops) (rw length-drop (omega arith)) in
    ext_get_or 0 (take (length l) (drop pc ops)) l n
    (λ k m.
    let m' : k < length l = omega (arith, n) in
    get_or-take (length l) (drop pc ops) k 0 m' ∙ get_or-drop pc ops k 0 ∙ f k m')

-- a straight run of words that the body has between two stages
module _ {from : ℕ} {B F : Out} (f : Finished from B F) {P Q : ℕ → Type 0} {a b : Out} (x : Adds P a b) (y : Adds Q b B) (h : from ≤ length a.ops)
    (all : AllGo x.words) where
  run_in : (k : ℕ) → k < length x.words → length a.ops + k < length B.ops
  run_in k m = omega (arith, adds_long x, adds_few y)

  run_there : (k : ℕ) → k < length x.words → op_at F (length a.ops + k) ≡ get_or x.words k 0
  run_there k m =
      let e : op_at B (length a.ops + k) ≡ get_or x.words k 0 = between_at x y k m in
      goes_there f (length a.ops + k) (omega arith) (run_in k m) (rw e (all_at all k m)) ∙ e

  pub run_stands : Stands F.ops (length a.ops) x.words
  run_stands = stands_by F.ops x.words (length a.ops) (omega (arith, adds_long x, adds_few y, f.long)) run_there

  -- and control goes from each to the next
  pub run-straight : (at : ℕ) → length a.ops ≤ at → at < length b.ops → goes_on (op_at F at) ≡ true
  run-straight at i j =
      let k : at ≡ length a.ops + (at - length a.ops) = omega arith in
      let m : at - length a.ops < length x.words = omega (arith, adds_long x) in
      rw (k, run_there (at - length a.ops) m) (all_at all (at - length a.ops) m)
