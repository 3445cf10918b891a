-- Laws of what compaction keeps and where it sends a pc.
use mathlib.Core.Path.{◌≡◌, refl, sym, ap, ◌∙◌}
use mathlib.Core.Bool.{Bool, true, false}
use mathlib.Core.List.{List, [], ◌∷◌, ◌++◌}
use Prim.Native.Nat.{ℕ, suc, ◌+◌, ◌≤◌, ◌<◌}
use native.Mathlib.Numerals.{add-one}
use native.Mathlib.Omega.{arith}
use borrow.Author.Tests.{not-true}
use lib.ListN.{length, get_or, take, drop, length-append, length-take, length-drop, take-append-drop}
use lib.Seq.{take-suc, take_all, drop-cons}
use Rattle.base.specs.Choice.{pick}
use Rattle.base.proofs.Numbers.{pick_case}
use Rattle.compact.specs.Compaction.{is_nop, kept_ops, kept_spans, sent}
use Rattle.compact.proofs.Every.{all_kept, stayed, every-parts}

-- what one word leaves
abbrev pub left {ℓ} : {A : Type ℓ} → ℕ → A → List A
left x a = pick (is_nop x) [] (a ∷ [])

pub kept_append : (xs ys : List ℕ) → kept_ops (xs ++ ys) ≡ kept_ops xs ++ kept_ops ys
unfolding kept_ops
kept_append [] ys = refl
kept_append (x ∷ xs) ys = go (is_nop x) (kept_append xs ys) where
  go : (b : Bool) → kept_ops (xs ++ ys) ≡ kept_ops xs ++ kept_ops ys
      → pick b (kept_ops (xs ++ ys)) (x ∷ kept_ops (xs ++ ys)) ≡ pick b (kept_ops xs) (x ∷ kept_ops xs) ++ kept_ops ys
  go true e = e
  go false e = ap (λ (l : List ℕ). x ∷ l) e

pub spans_append : (xs ys ss ts : List ℕ) → length xs ≡ length ss → kept_spans (xs ++ ys) (ss ++ ts) ≡ kept_spans xs ss ++ kept_spans ys ts
unfolding kept_spans
spans_append [] ys [] ts h = refl
spans_append [] ys (s ∷ ss) ts h = absurd (omega arith)
spans_append (x ∷ xs) ys [] ts h = absurd (omega arith)
spans_append (x ∷ xs) ys (s ∷ ss) ts h = go (is_nop x) (spans_append xs ys ss ts (omega arith)) where
  go : (b : Bool) → kept_spans (xs ++ ys) (ss ++ ts) ≡ kept_spans xs ss ++ kept_spans ys ts
      → pick b (kept_spans (xs ++ ys) (ss ++ ts)) (s ∷ kept_spans (xs ++ ys) (ss ++ ts)) ≡ pick b (kept_spans xs ss) (s ∷ kept_spans xs ss) ++ kept_spans ys ts
  go true e = e
  go false e = ap (λ (l : List ℕ). s ∷ l) e

-- no more stays than there was
pub kept_le : (xs : List ℕ) → length (kept_ops xs) ≤ length xs
unfolding kept_ops
kept_le [] = omega arith
kept_le (x ∷ xs) = go (is_nop x) (kept_le xs) where
  go : (b : Bool) → length (kept_ops xs) ≤ length xs → length (pick b (kept_ops xs) (x ∷ kept_ops xs)) ≤ suc (length xs)
  go true h = omega arith
  go false h = omega arith

-- as many spans stay as ops
pub spans_length : (xs ss : List ℕ) → length xs ≡ length ss → length (kept_spans xs ss) ≡ length (kept_ops xs)
unfolding kept_ops kept_spans
spans_length [] [] h = refl
spans_length [] (s ∷ ss) h = refl
spans_length (x ∷ xs) [] h = absurd (omega arith)
spans_length (x ∷ xs) (s ∷ ss) h = go (is_nop x) (spans_length xs ss (omega arith)) where
  go : (b : Bool) → length (kept_spans xs ss) ≡ length (kept_ops xs)
      → length (pick b (kept_spans xs ss) (s ∷ kept_spans xs ss)) ≡ length (pick b (kept_ops xs) (x ∷ kept_ops xs))
  go true e = e
  go false e = ap suc e

-- the first r + 1 ops leave what the first r do, and what the next does
pub kept-turn : (ops : List ℕ) (r : ℕ) → r < length ops → kept_ops (take (r + 1) ops) ≡ kept_ops (take r ops) ++ left (get_or ops r 0) (get_or ops r 0)
unfolding kept_ops
kept-turn ops r h = rw (add-one r, take-suc ops r 0 h, kept_append)

pub spans_turn : (ops spans : List ℕ) (r : ℕ) → r < length ops → r < length spans
    → kept_spans (take (r + 1) ops) (take (r + 1) spans) ≡ kept_spans (take r ops) (take r spans) ++ left (get_or ops r 0) (get_or spans r 0)
unfolding kept_spans
spans_turn ops spans r h k =
    let e : length (take r ops) ≡ length (take r spans) = simp length-take (omega arith) in
    rw (add-one r, take-suc ops r 0 h, take-suc spans r 0 k, spans_append (take r ops) (get_or ops r 0 ∷ []) (take r spans) (get_or spans r 0 ∷ []) e)

-- a pc is sent one further than the pc before it, unless a Nop stands there
pub sent-turn : (ops : List ℕ) (pc : ℕ) → pc < length ops → sent ops (pc + 1) ≡ sent ops pc + pick (is_nop (get_or ops pc 0)) 0 1
unfolding sent
sent-turn ops pc h =
    ap length (kept-turn ops pc h) ∙ length-append (kept_ops (take pc ops)) (left (get_or ops pc 0) (get_or ops pc 0)) ∙ go (is_nop (get_or ops pc 0)) where
      go : (b : Bool) → length (kept_ops (take pc ops)) + length (pick b [] (get_or ops pc 0 ∷ [])) ≡ length (kept_ops (take pc ops)) + pick b 0 1
      go true = refl
      go false = refl

-- no pc is sent up
pub sent_le : (ops : List ℕ) (pc : ℕ) → sent ops pc ≤ pc
unfolding sent
sent_le ops pc = omega (arith, kept_le (take pc ops), length-take pc ops)

-- none is sent past the end
pub sent_most : (ops : List ℕ) (pc : ℕ) → sent ops pc ≤ length (kept_ops ops)
unfolding sent
sent_most ops pc =
    let e : kept_ops ops ≡ kept_ops (take pc ops) ++ kept_ops (drop pc ops) = sym (ap kept_ops (take-append-drop pc ops)) ∙ kept_append (take pc ops) (drop pc ops) in
    omega (arith, ap length e, length-append (kept_ops (take pc ops)) (kept_ops (drop pc ops)))

-- the start is sent to the start
pub sent-zero : (ops : List ℕ) → sent ops 0 ≡ 0
unfolding sent kept_ops
sent-zero ops = refl

-- what stays is not Nop
pub kept_stay : (xs : List ℕ) → all_kept (kept_ops xs) ≡ true
unfolding kept_ops
kept_stay [] = refl
kept_stay (x ∷ xs) =
    pick_case (λ (l : List ℕ). all_kept l ≡ true) (is_nop x) (kept_ops xs) (x ∷ kept_ops xs)
    (λ e. kept_stay xs)
    (λ e. rw e (kept_stay xs))

-- where no op is Nop all stay, with their spans, and each pc is sent to itself
pub kept_same : (xs : List ℕ) → all_kept xs ≡ true → kept_ops xs ≡ xs
unfolding kept_ops
kept_same [] h = refl
kept_same (x ∷ xs) h =
    let p = every-parts stayed x xs h in
    let e : is_nop x ≡ false = not-true (is_nop x) p.0 in
    rw (e, kept_same xs p.1)

pub spans_same : (xs ss : List ℕ) → all_kept xs ≡ true → length ss ≡ length xs → kept_spans xs ss ≡ ss
unfolding kept_spans
spans_same [] [] h l = refl
spans_same [] (s ∷ ss) h l = absurd (omega arith)
spans_same (x ∷ xs) [] h l = absurd (omega arith)
spans_same (x ∷ xs) (s ∷ ss) h l =
    let p = every-parts stayed x xs h in
    let e : is_nop x ≡ false = not-true (is_nop x) p.0 in
    rw (e, spans_same xs ss p.1 (omega arith))

-- the ops that stay, at a pc
pub kept-parts : (ops : List ℕ) (pc : ℕ) → kept_ops ops ≡ kept_ops (take pc ops) ++ kept_ops (drop pc ops)
kept-parts ops pc = sym (ap kept_ops (take-append-drop pc ops)) ∙ kept_append (take pc ops) (drop pc ops)

pub sent-same : (ops : List ℕ) (pc : ℕ) → all_kept ops ≡ true → pc ≤ length ops → sent ops pc ≡ pc
unfolding sent
sent-same ops pc h l =
    let e = ap length (kept-parts ops pc) ∙ length-append (kept_ops (take pc ops)) (kept_ops (drop pc ops)) in
    omega (arith, e, ap length (kept_same ops h), kept_le (take pc ops), kept_le (drop pc ops), length-take pc ops, length-drop pc ops)

-- past the end
pub sent-past : (ops : List ℕ) (pc : ℕ) → length ops ≤ pc → sent ops pc ≡ length (kept_ops ops)
unfolding sent
sent-past ops pc h = rw (take_all pc ops h)

-- the op that stays stands where its pc is sent
pub kept_at : (ops : List ℕ) (pc : ℕ) → pc < length ops → is_nop (get_or ops pc 0) ≡ false
    → kept_ops ops ≡ kept_ops (take pc ops) ++ get_or ops pc 0 ∷ kept_ops (drop (suc pc) ops)
unfolding kept_ops
kept_at ops pc h e = kept-parts ops pc ∙ rw (drop-cons ops pc 0 h, e)

pub spans_at : (ops spans : List ℕ) (pc : ℕ) → length spans ≡ length ops → pc < length ops → is_nop (get_or ops pc 0) ≡ false
    → kept_spans ops spans ≡ kept_spans (take pc ops) (take pc spans) ++ get_or spans pc 0 ∷ kept_spans (drop (suc pc) ops) (drop (suc pc) spans)
unfolding kept_spans
spans_at ops spans pc l h e =
    let k : pc < length spans = omega arith in
    let m : length (take pc ops) ≡ length (take pc spans) = simp length-take (omega arith) in
    let d : kept_spans ops spans ≡ kept_spans (take pc ops ++ drop pc ops) (take pc spans ++ drop pc spans)
    = rw (take-append-drop pc ops, take-append-drop pc spans) in
    d ∙ spans_append (take pc ops) (drop pc ops) (take pc spans) (drop pc spans) m ∙ rw (drop-cons ops pc 0 h, drop-cons spans pc 0 k, e)
