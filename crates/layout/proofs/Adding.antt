-- What a rule adds: words behind those that stood, and labels other than those that are kept. A straight rule adds ops behind which control
-- goes on, and binds no label.
use mathlib.Core.Path.{◌≡◌, refl, sym, ap, ◌∙◌}
use mathlib.Core.Logic.{◌≢◌}
use mathlib.Core.Bool.{true}
use Prim.Native.Nat.{ℕ, ◌+◌, ◌≤◌, ◌<◌}
use mathlib.Core.List.{List, [], ◌∷◌, ◌++◌, append_assoc, append-nil}
use native.Mathlib.Omega.{arith}
use lib.ListN.{length, get_or, set, length-append, length-set, get_or-append}
use lib.Seq.{get_or-set_same, get_or-set_other, get_or-append-add}
use Rattle.base.specs.Emission.{Out, emit, emit_all, at_span, bind}
use Rattle.base.proofs.Pens.{emit_all-ops, emit_all_labels}
use Rattle.layout.specs.Layout.{goes_on}
use Rattle.layout.proofs.Straight.{AllGo, none, all_append, all_one}

-- from o to o', with every label of P kept
pub record Adds (P : ℕ → Type 0) (o o' : Out) : Type 0 where
  pub words : List ℕ
  pub so : o'.ops ≡ o.ops ++ words
  pub many : length o'.labels ≡ length o.labels
  pub kept : (l : ℕ) → P l → get_or o'.labels l 0 ≡ get_or o.labels l 0

-- every label
abbrev pub Any : ℕ → Type 0
Any l = 0 ≤ l

pub adds_none : {P : ℕ → Type 0} (o : Out) → Adds P o o
adds_none o = record { words = []; so = sym (append-nil o.ops); many = refl; kept = λ l p. refl }

pub adds_then : {P : ℕ → Type 0} {a b c : Out} → Adds P a b → Adds P b c → Adds P a c
adds_then {a = a} x y =
    record {
      words = x.words ++ y.words;
      so = y.so ∙ rw x.so (append_assoc a.ops x.words y.words);
      many = y.many ∙ x.many;
      kept = λ l p. y.kept l p ∙ x.kept l p;
    }

-- fewer labels are kept
pub adds_fewer : {P Q : ℕ → Type 0} {a b : Out} → ((l : ℕ) → P l → Q l) → Adds Q a b → Adds P a b
adds_fewer f x = record { words = x.words; so = x.so; many = x.many; kept = λ l p. x.kept l (f l p) }

pub adds_any : {P : ℕ → Type 0} {a b : Out} → Adds Any a b → Adds P a b
adds_any x = adds_fewer (λ l p. omega arith) x

pub adds_few : {P : ℕ → Type 0} {a b : Out} → Adds P a b → length a.ops ≤ length b.ops
adds_few x = omega (arith, simp length-append at (ap length x.so))

-- the steps
module _ (o : Out) where
  unfoldable pub adds_all : (ws : List ℕ) → Adds Any o (emit_all ws o)
  adds_all ws =
      record {
        words = ws;
        so = emit_all-ops ws o;
        many = ap length (emit_all_labels ws o);
        kept = λ l p. ap (λ (x : List ℕ). get_or x l 0) (emit_all_labels ws o);
      }

  unfoldable pub adds_emit : (w : ℕ) → Adds Any o (emit w o)
  unfolding emit
  adds_emit w = record { words = w ∷ []; so = refl; many = refl; kept = λ l p. refl }

  pub adds_span : (s : ℕ) → Adds Any o (at_span s o)
  unfolding at_span
  adds_span s = record { words = []; so = sym (append-nil o.ops); many = refl; kept = λ l p. refl }

  -- a label that is not kept
  pub adds_bind : {P : ℕ → Type 0} (k : ℕ) → ((l : ℕ) → P l → l ≢ k) → Adds P o (bind k o)
  unfolding bind
  adds_bind k f =
      record {
        words = [];
        so = sym (append-nil o.ops);
        many = length-set o.labels k (length o.ops);
        kept = λ l p. get_or-set_other o.labels k l (length o.ops) 0 (f l p);
      }

  -- and what it is bound to
  bind_at : (k : ℕ) → k < length o.labels → get_or (bind k o).labels k 0 ≡ length o.ops
  unfolding bind
  bind_at k h = get_or-set_same o.labels k (length o.ops) 0 h

  pub bind-ops : (k : ℕ) → (bind k o).ops ≡ o.ops
  unfolding bind
  bind-ops k = refl

  pub span_ops : (s : ℕ) → (at_span s o).ops ≡ o.ops
  unfolding at_span
  span_ops s = refl

-- a word that was added behind o, in all that came later
added_at : {P : ℕ → Type 0} {o o' : Out} (x : Adds P o o') (k : ℕ) → get_or o'.ops (length o.ops + k) 0 ≡ get_or x.words k 0
added_at {o = o} x k = rw x.so (get_or-append-add o.ops x.words k 0)

-- a word that stood before
pub old_at : {P : ℕ → Type 0} {o o' : Out} → Adds P o o' → (k : ℕ) → k < length o.ops → get_or o'.ops k 0 ≡ get_or o.ops k 0
old_at {o = o} x k h = rw x.so (get_or-append o.ops x.words 0 k h)

-- both: a word of the first step after the second
pub between_at : {P Q : ℕ → Type 0} {a b c : Out} (x : Adds P a b) → Adds Q b c → (k : ℕ) → k < length x.words
    → get_or c.ops (length a.ops + k) 0 ≡ get_or x.words k 0
between_at {a = a} {b = b} x y k h =
    let n : length b.ops ≡ length a.ops + length x.words = (simp length-append at (ap length x.so)) in
    old_at y (length a.ops + k) (omega arith) ∙ added_at x k

pub adds_long : {P : ℕ → Type 0} {a b : Out} (x : Adds P a b) → length b.ops ≡ length a.ops + length x.words
adds_long x = simp length-append at (ap length x.so)

pub emit_long : (w : ℕ) (o : Out) → length (emit w o).ops ≡ length o.ops + 1
unfolding emit
emit_long w o = length-append o.ops (w ∷ [])

-- ---- straight rules
pub record Goes (o o' : Out) : Type 0 where
  pub adds : Adds Any o o'
  pub all : AllGo adds.words

pub stays : (o : Out) → Goes o o
unfolding adds_none
stays o = record { adds = adds_none o; all = none }

module _ {o q : Out} where
  pub by_all : {ws : List ℕ} → AllGo ws → Goes o q → Goes o (emit_all ws q)
  unfolding adds_then adds_all
  by_all {ws} h g = record { adds = adds_then g.adds (adds_all q ws); all = all_append g.all h }

  pub by-emit : (w : ℕ) → goes_on w ≡ true → Goes o q → Goes o (emit w q)
  unfolding adds_then adds_emit
  by-emit w h g = record { adds = adds_then g.adds (adds_emit q w); all = all_append g.all (all_one h) }

  pub by_span : (s : ℕ) → Goes o q → Goes o (at_span s q)
  unfolding adds_then adds_span
  by_span s g = record { adds = adds_then g.adds (adds_span q s); all = all_append g.all none }

-- no label
abbrev pub Nil : ℕ → Type 0
Nil l = l < 0

pub adds_nil : {P : ℕ → Type 0} {a b : Out} → Adds P a b → Adds Nil a b
adds_nil {P} x = adds_fewer {P = Nil} {Q = P} (λ l p. absurd (omega arith)) x

-- a label that is bound once is bound to where it was
pub bound_at : {P : ℕ → Type 0} (k : ℕ) (o : Out) {B : Out} → P k → k < length B.labels → Adds P (bind k o) B → get_or B.labels k 0 ≡ length o.ops
unfolding bind
bound_at k o p h y =
    let m : length (set o.labels k (length o.ops)) ≡ length o.labels = length-set o.labels k (length o.ops) in
    y.kept k p ∙ bind_at o k (omega (arith, y.many))
