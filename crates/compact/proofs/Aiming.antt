-- Laws of a pc in a word: an op aimed anew is read as what it was made, it is no Nop and still an op.
use mathlib.Core.Path.{◌≡◌, refl, sym, ◌∙◌}
use mathlib.Core.Logic.{◌≢◌, ⊎_elim}
use mathlib.Core.Bool.{Bool, true, false}
use Prim.Native.Nat.{ℕ, zero, suc, ◌+◌, ◌*◌, ◌/◌, ◌%◌, ◌<◌}
use native.Mathlib.Omega.{arith}
use borrow.Author.Tests.{ltb-true, eqb-true}
use lib.Dec.{ltb, eqb}
use Rattle.base.specs.Choice.{pick}
use Rattle.base.proofs.Numbers.{same?, pick_true, pick-false, pick-both, pick_case}
use Rattle.op.specs.declared.Op.{Op}
use Rattle.op.specs.Ops.{op}
use Rattle.op.specs.Fields.{table, fields_of}
use Rattle.op.specs.Words.{word, parts, may_be, allowed}
use Rattle.op.specs.Targets.{is_jump, is_entry, in_bytes, target_of, aimed}
use Rattle.compact.specs.Compaction.{holds_pc}
use Rattle.compact.proofs.Every.{not-both, both-pass}

-- the four bytes are bytes
pub record Bytes (o : Op) : Type 0 where
  pub code : o.code < 256
  pub a : o.a < 256
  pub b : o.b < 256
  pub c : o.c < 256

pub bytes_parts : (x : ℕ) → Bytes (parts x)
unfolding parts
bytes_parts x = record { code = omega arith; a = omega arith; b = omega arith; c = omega arith }

-- a word is read as what it was made of
pub parts-word : (o : Op) → Bytes o → parts (word o) ≡ o
unfolding word parts
parts-word o r =
    let q1 : word o / 256 ≡ o.a + 256 * (o.b + 256 * (o.c + 256 * o.w)) = omega arith in
    let q2 : word o / 65536 ≡ o.b + 256 * (o.c + 256 * o.w) = omega arith in
    let q3 : word o / 16777216 ≡ o.c + 256 * o.w = omega arith in
    let e0 : word o % 256 ≡ o.code = omega arith in
    let e1 : word o / 256 % 256 ≡ o.a = rw q1 (omega arith) in
    let e2 : word o / 65536 % 256 ≡ o.b = rw q2 (omega arith) in
    let e3 : word o / 16777216 % 256 ≡ o.c = rw q3 (omega arith) in
    let e4 : word o / 4294967296 ≡ o.w = omega arith in
    rw (e0, e1, e2, e3, e4)

-- the opcode stays
pub code-aimed : (pc : ℕ) (o : Op) → (aimed pc o).code ≡ o.code
unfolding aimed
code-aimed pc o = pick-both (λ (q : Op). q.code ≡ o.code) (in_bytes o.code) _ _ refl refl

pub bytes_aimed : (pc : ℕ) (o : Op) → Bytes o → Bytes (aimed pc o)
unfolding aimed
bytes_aimed pc o h =
    pick-both Bytes (in_bytes o.code) _ _
    (record { code = h.code; a = h.a; b = omega arith; c = omega arith })
    (record { code = h.code; a = h.a; b = h.b; c = h.c })

-- the pc is the one that it was aimed at
pub target_aimed : (pc : ℕ) (o : Op) → pc < 65536 → target_of (aimed pc o) ≡ pc
unfolding aimed target_of
target_aimed pc o h =
    pick_case (λ (q : Op). target_of q ≡ pc) (in_bytes o.code) _ _
    (λ e. rw e (omega arith))
    (λ e. rw e)

-- aimed at its own pc it is itself
pub aimed_target : (o : Op) → Bytes o → aimed (target_of o) o ≡ o
unfolding aimed target_of
aimed_target o h = go (in_bytes o.code) where
  go : (t : Bool) → pick t (op o.code o.a (pick t (o.b + 256 * o.c) o.w % 256) (pick t (o.b + 256 * o.c) o.w / 256 % 256) o.w)
      (op o.code o.a o.b o.c (pick t (o.b + 256 * o.c) o.w)) ≡ o
  go true =
      let e : (o.b + 256 * o.c) % 256 ≡ o.b = omega arith in
      let f : (o.b + 256 * o.c) / 256 ≡ o.c = omega arith in
      let g : o.c % 256 ≡ o.c = omega arith in
      rw (e, f, g)
  go false = refl

-- the word of an op that is no Nop is not Nop's
word-zero : (o : Op) → word o ≡ 0 → o.code ≡ 0
unfolding word
word-zero o e = omega arith

pub aimed-not-nop : (pc x : ℕ) → holds_pc x ≡ true → word (aimed pc (parts x)) ≢ 0
aimed-not-nop pc x h e =
    let z : (parts x).code ≡ 0 = sym (code-aimed pc (parts x)) ∙ word-zero (aimed pc (parts x)) e in
    not-both (sym h ∙ rw z)

-- a test that each number below n passes
abbrev below : ℕ → (ℕ → Bool) → Bool
below zero t = true
below (suc n) t = pick (t n) (below n t) false

below_at : (n : ℕ) (t : ℕ → Bool) → below n t ≡ true → (k : ℕ) → k < n → t k ≡ true
below_at zero t h k l = absurd (omega arith)
below_at (suc n) t h k l =
    let p = both-pass (t n) (below n t) h in
    ⊎_elim (λ (e : k ≡ n). rw e p.0) (λ (e : k ≢ n). below_at n t p.1 k (omega (arith, e))) (same? k n)

-- an opcode that has a pc in w uses w, one that has it in b and c uses every field
abbrev fields_fit : ℕ → Bool
fields_fit code =
    pick (pick (is_jump code) true (is_entry code)) (pick (in_bytes code) (eqb (fields_of code) 15) (eqb (fields_of code / 8 % 2) 1)) true

fields_fit_lem : (code : ℕ) → code < 61 → fields_fit code ≡ true
unfolding fields_of table
fields_fit_lem code h = below_at 61 fields_fit refl code h

-- the last of five tests may be another that passes
last_other : (p q r s t t' : Bool) → pick p (pick q (pick r (pick s t false) false) false) false ≡ true → t' ≡ true
    → pick p (pick q (pick r (pick s t' false) false) false) false ≡ true
last_other true true true true t t' h e = e
last_other true true true false t t' h e = h
last_other true true false s t t' h e = h
last_other true false r s t t' h e = h
last_other false q r s t t' h e = h

-- an op aimed anew is an op
pub aimed-allowed : (pc x : ℕ) → holds_pc x ≡ true → allowed (parts x) ≡ true → allowed (aimed pc (parts x)) ≡ true
unfolding aimed allowed may_be
aimed-allowed pc x h e =
    let o = parts x in
    let small : ltb o.code 61 ≡ true = (both-pass (ltb o.code 61) _ e).0 in
    let f = fields_fit_lem o.code (ltb-true o.code 61 small) in
    let g : pick (in_bytes o.code) (eqb (fields_of o.code) 15) (eqb (fields_of o.code / 8 % 2) 1) ≡ true = sym (pick_true (holds_pc x) _ _ h) ∙ f in
    pick_case (λ (q : Op). allowed q ≡ true) (in_bytes o.code) _ _
    (λ b. let k : fields_of o.code ≡ 15 = eqb-true (fields_of o.code) 15 (sym (pick_true (in_bytes o.code) _ _ b) ∙ g) in rw (small, k))
    (λ b. let k : fields_of o.code / 8 % 2 ≡ 1 = eqb-true (fields_of o.code / 8 % 2) 1 (sym (pick-false (in_bytes o.code) _ _ b) ∙ g) in
    let w : may_be (fields_of o.code / 8 % 2) pc ≡ true = rw k in
    last_other (ltb o.code 61) (may_be (fields_of o.code % 2) o.a) (may_be (fields_of o.code / 2 % 2) o.b)
    (may_be (fields_of o.code / 4 % 2) o.c) (may_be (fields_of o.code / 8 % 2) o.w) (may_be (fields_of o.code / 8 % 2) pc) e w)
