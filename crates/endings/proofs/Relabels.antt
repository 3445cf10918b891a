-- Slots that are labels become pcs, one by one.
use mathlib.Core.Path.{◌≡◌, refl, sym, ap, ◌∙◌}
use mathlib.Core.List.{List, [], ◌∷◌, ◌++◌, map-append, append-nil, append_assoc}
use Prim.Native.Nat.{ℕ, suc, ◌+◌, ◌-◌, ◌≤◌, ◌<◌}
use native.Mathlib.Numerals.{add-one}
use native.Mathlib.Omega.{arith}
use lib.ListN.{length, get_or, take, drop, set, length-set, length-append, length-take, length-drop, length-map, take-append-drop}
use lib.Seq.{take-suc, drop-cons, get_or-drop, get_or_at, set_at, append_snoc}
use Rattle.used.specs.Used.{labels_at}

-- those from `from` to i are pcs already
abbrev pub front : List ℕ → List ℕ → ℕ → ℕ → List ℕ
front labels l from i = take from l ++ labels_at labels (take (i - from) (drop from l))

abbrev pub relabelled : List ℕ → List ℕ → ℕ → ℕ → List ℕ
relabelled labels l from i = front labels l from i ++ drop i l

module _ (labels l : List ℕ) (from i : ℕ) (h : from ≤ i) where
  front_length : i ≤ length l → length (front labels l from i) ≡ i
  front_length k = simp (length-append, length-map, length-take, length-drop) (omega arith)

  front-more : i < length l → front labels l from (i + 1) ≡ front labels l from i ++ (get_or labels (get_or l i 0) 0 ∷ [])
  front-more k =
      let e : i + 1 - from ≡ suc (i - from) = omega arith in
      let d : i - from < length (drop from l) = simp length-drop (omega arith) in
      let f : from + (i - from) ≡ i = omega arith in
      let g : get_or (drop from l) (i - from) 0 ≡ get_or l i 0 = get_or-drop from l (i - from) 0 ∙ rw f in
      rw (e, take-suc (drop from l) (i - from) 0 d, g, map-append)
      (sym (append_assoc (take from l) (labels_at labels (take (i - from) (drop from l))) (get_or labels (get_or l i 0) 0 ∷ [])))

  -- the slot at i is a label still
  pub slot_is : i < length l → get_or (relabelled labels l from i) i 0 ≡ get_or l i 0
  slot_is k =
      rw (drop-cons l i 0 k) (get_or_at (front labels l from i) (get_or l i 0) (drop (suc i) l) 0 i (front_length (omega arith)))

  -- and becomes its pc
  pub relabel_turn : (x : ℕ) → i < length l → x ≡ get_or labels (get_or l i 0) 0
      → set (relabelled labels l from i) i x ≡ relabelled labels l from (i + 1)
  relabel_turn x k e =
      let s : set (relabelled labels l from i) i x ≡ front labels l from i ++ x ∷ drop (suc i) l =
      rw (drop-cons l i 0 k) (set_at (front labels l from i) (get_or l i 0) (drop (suc i) l) x i (front_length (omega arith))) in
      s ∙ rw (front-more k, add-one i, e) (sym (append_snoc (front labels l from i) (get_or labels (get_or l i 0) 0) (drop (suc i) l)))

pub relabel_start : (labels l : List ℕ) (from : ℕ) → l ≡ relabelled labels l from from
relabel_start labels l from =
    let e : from - from ≡ 0 = omega arith in
    rw (e, append-nil) (sym (take-append-drop from l))

-- a loop that does so, from `from` to `end`
pub record Relabels (labels l : List ℕ) (from end i : ℕ) (targets : List ℕ) : Type 0 where
  pub from_here : from ≤ i
  pub until : i ≤ end
  pub fits : end ≤ length l
  pub same : length targets ≡ length l
  pub is : targets ≡ relabelled labels l from i

pub relabels_start : (labels l : List ℕ) (from end : ℕ) → from ≤ end → end ≤ length l → Relabels labels l from end from l
relabels_start labels l from end h k =
    record { from_here = omega arith; until = h; fits = k; same = refl; is = relabel_start labels l from }

pub relabels_turn : (labels l : List ℕ) (from end i : ℕ) (targets : List ℕ) (x : ℕ) → Relabels labels l from end i targets → i < end
    → x ≡ get_or labels (get_or targets i 0) 0 → Relabels labels l from end (i + 1) (set targets i x)
relabels_turn labels l from end i targets x r h e =
    let k : i < length l = omega (arith, r.fits) in
    let s : get_or targets i 0 ≡ get_or l i 0 = ap (λ (t : List ℕ). get_or t i 0) r.is ∙ slot_is labels l from i r.from_here k in
    record {
      from_here = omega (arith, r.from_here);
      until = omega arith;
      fits = r.fits;
      same = length-set targets i x ∙ r.same;
      is = ap (λ (t : List ℕ). set t i x) r.is
          ∙ relabel_turn labels l from i r.from_here x k (e ∙ ap (λ (t : ℕ). get_or labels t 0) s);
    }

pub relabels_end : (labels l : List ℕ) (from end i : ℕ) (targets : List ℕ) → Relabels labels l from end i targets → end ≤ i
    → targets ≡ relabelled labels l from end
relabels_end labels l from end i targets r h = let e : i ≡ end = omega (arith, r.until) in r.is ∙ ap (relabelled labels l from) e
