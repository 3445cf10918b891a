-- Emission only adds: what stood before still starts the ops and the spans, no label is lost, and every label stays within the ops.
use mathlib.Core.Path.{◌≡◌, refl, sym, ap}
use mathlib.Core.Logic.{⊎_elim, ◌≢◌}
use Prim.Native.Nat.{ℕ, ◌≤◌, ◌<◌}
use mathlib.Core.List.{List, [], ◌∷◌, ◌++◌, append_assoc, append-nil}
use native.Mathlib.Omega.{arith}
use lib.ListN.{length, get_or, take, set, replicate, length-append, length-set}
use lib.Seq.{take_at, take-append-le, set_out, get_or-set_same, get_or-set_other}
use Rattle.base.specs.Emission.{Out, emit, emit_all, at_span, bind}
use Rattle.base.proofs.Numbers.{lt?, same?}
use Rattle.base.proofs.Pens.{emit_all-ops, emit_all_spans, emit_all_labels}

-- one list starts another
pub record Starts (xs ys : List ℕ) : Type 0 where
  pub more : List ℕ
  pub so : ys ≡ xs ++ more

starts_all : (xs : List ℕ) → Starts xs xs
starts_all xs = record { more = []; so = sym (append-nil xs) }

starts_with : {xs ys : List ℕ} (zs : List ℕ) → Starts xs ys → Starts xs (ys ++ zs)
starts_with {xs} zs s = record { more = s.more ++ zs; so = rw s.so (append_assoc xs s.more zs) }

pub starts_few : {xs ys : List ℕ} → Starts xs ys → length xs ≤ length ys
starts_few {xs} s = omega (arith, simp length-append at (ap length s.so))

pub starts_keeps : {xs ys : List ℕ} → Starts xs ys → take (length xs) ys ≡ xs
starts_keeps {xs} s = rw s.so (take_at xs s.more (length xs) refl)

pub starts_take : {xs ys : List ℕ} (k : ℕ) → k ≤ length xs → Starts xs ys → take k ys ≡ take k xs
starts_take {xs} k h s = rw s.so (take-append-le k xs s.more h)

-- no element is above the bound
abbrev pub Within : List ℕ → ℕ → Type 0
Within xs n = (i : ℕ) → get_or xs i 0 ≤ n

set-within : (xs : List ℕ) (k x n : ℕ) → Within xs n → x ≤ n → Within (set xs k x) n
set-within xs k x n w h i =
    ⊎_elim
    (λ (e : i ≡ k).
    rw e
    (⊎_elim (λ (l : k < length xs). rw (get_or-set_same xs k x 0 l) h) (λ (g : length xs ≤ k). rw (set_out xs k x g) (w k)) (lt? k (length xs))))
    (λ (e : i ≢ k). rw (get_or-set_other xs k i x 0 e) (w i))
    (same? i k)

-- What one Out has become.
pub record Grows (o o' : Out) : Type 0 where
  pub ops_start : Starts o.ops o'.ops
  pub spans_start : Starts o.spans o'.spans
  pub labels_many : length o'.labels ≡ length o.labels
  pub labels_within : Within o.labels (length o.ops) → Within o'.labels (length o'.ops)

pub stays : (o : Out) → Grows o o
stays o =
    record { ops_start = starts_all o.ops; spans_start = starts_all o.spans; labels_many = refl; labels_within = λ w. w }

-- the four steps
module _ {o q : Out} where
  pub by_all : (ws : List ℕ) → Grows o q → Grows o (emit_all ws q)
  by_all ws g =
      let e = emit_all-ops ws q in
      let more : length q.ops ≤ length (emit_all ws q).ops = omega (arith, simp length-append at (ap length e)) in
      record {
        ops_start = rw e (starts_with ws g.ops_start);
        spans_start = rw (emit_all_spans ws q) (starts_with (replicate (length ws) q.span) g.spans_start);
        labels_many = rw (emit_all_labels ws q) g.labels_many;
        labels_within = λ w i. rw (emit_all_labels ws q) (omega (arith, g.labels_within w i, more));
      }

  pub by-emit : (w : ℕ) → Grows o q → Grows o (emit w q)
  unfolding emit_all
  by-emit w g = by_all (w ∷ []) g

  pub by_span : (s : ℕ) → Grows o q → Grows o (at_span s q)
  unfolding at_span
  by_span s g =
      record { ops_start = g.ops_start; spans_start = g.spans_start; labels_many = g.labels_many; labels_within = g.labels_within }

  pub by-bind : (k : ℕ) → Grows o q → Grows o (bind k q)
  unfolding bind
  by-bind k g =
      record {
        ops_start = g.ops_start;
        spans_start = g.spans_start;
        labels_many = simp length-set g.labels_many;
        labels_within = λ w. set-within q.labels k (length q.ops) (length q.ops) (g.labels_within w) (omega arith);
      }
