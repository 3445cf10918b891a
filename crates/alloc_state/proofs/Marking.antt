-- Marking place after place finds out what is ours and stands nowhere twice.
use mathlib.Core.Path.{◌≡◌, refl, sym, ap, ◌∙◌}
use mathlib.Core.Logic.{⊎_elim, ◌≢◌}
use mathlib.Core.Bool.{Bool, true, false}
use mathlib.Core.List.{List, [], ◌∷◌, ◌++◌, map}
use Prim.Native.Nat.{ℕ, zero, suc, ◌+◌, ◌/◌, ◌%◌, ◌≤◌, ◌<◌}
use native.Mathlib.Omega.{arith}
use lib.Dec.{ltb, eqb}
use lib.ListN.{length, get_or, take, length-set}
use lib.Seq.{take-nil, get_or-set_same, get_or-set_other}
use borrow.Author.Tests.{ltb-true, eqb-true, eq-eqb, ne_eqb}
use Rattle.base.specs.Choice.{pick}
use Rattle.base.specs.Lists.{among}
use Rattle.base.specs.Masks.{with_bit}
use Rattle.base.proofs.Numbers.{both, same?}
use Rattle.place.specs.declared.Reg.TheVariants.{Gpr, Fpr}
use Rattle.place.specs.declared.Place.{Place}
use Rattle.place.specs.declared.Place.TheVariants.{Slot, Register}
use Rattle.place.specs.Places.{Fits, number_of, slots_from, floats_from, class_of, index_of}
use Rattle.alloc.specs.State.{most_slots}
use Rattle.alloc_state.specs.declared.Marks.{Marks}
use Rattle.alloc_state.specs.Judged.{all_below, ours, all_ours}
use Rattle.alloc_state.specs.Marks.{in_pair, put_pair, refused, pool_masks, mark_slot, mark_reg, mark, mark_all}
use Rattle.alloc_state.proofs.Distinct.{iff, fresh_in}
use Rattle.alloc_state.proofs.Ours.{below_each, has-with, pool-has, ours_gpr, ours-slot, ours_fpr}

-- ---- a place in the masks, and the masks with it
abbrev pub holds : Place → Marks → Bool
holds (Slot k) m = in_pair m.slots (k / 64) (k % 64)
holds (Register r) m = in_pair m.regs (class_of r) (index_of r)

abbrev put : Place → Marks → Marks
put (Slot k) m = record { ok = m.ok; regs = m.regs; slots = put_pair m.slots (k / 64) (k % 64) }
put (Register r) m = record { ok = m.ok; regs = put_pair m.regs (class_of r) (index_of r); slots = m.slots }

pair_same : (l : List ℕ) (c k j : ℕ) → c < length l → k < 64 → in_pair (put_pair l c k) c j ≡ pick (eqb j k) true (in_pair l c j)
pair_same l c k j h b = rw (get_or-set_same l c (with_bit (get_or l c 0) k) 0 h) (has-with (get_or l c 0) k j b)

pair_other : (l : List ℕ) (c k d j : ℕ) → d ≢ c → in_pair (put_pair l c k) d j ≡ in_pair l d j
pair_other l c k d j h = rw (get_or-set_other l c d (with_bit (get_or l c 0) k) 0 h)

-- two masks of each kind
pub record Paired (m : Marks) : Type 0 where
  pub regs_two : length m.regs ≡ 2
  pub slots_two : length m.slots ≡ 2

put_paired : (p : Place) (m : Marks) → Paired m → Paired (put p m)
put_paired (Slot k) m h = record { regs_two = h.regs_two; slots_two = simp length-set h.slots_two }
put_paired (Register r) m h = record { regs_two = simp length-set h.regs_two; slots_two = h.slots_two }

put_ok : (p : Place) (m : Marks) → (put p m).ok ≡ m.ok
put_ok (Slot k) m = refl
put_ok (Register r) m = refl

pub eqb_plus : (n a b : ℕ) → eqb (n + a) (n + b) ≡ eqb a b
eqb_plus n a b =
    iff (eqb (n + a) (n + b)) (eqb a b) (λ e. eq-eqb a b (omega (arith, eqb-true (n + a) (n + b) e)))
    (λ e. eq-eqb (n + a) (n + b) (omega (arith, eqb-true a b e)))

-- slots by mask and number
slot-put : (l : List ℕ) (j k : ℕ) → length l ≡ 2 → k < most_slots
    → in_pair (put_pair l (k / 64) (k % 64)) (j / 64) (j % 64) ≡ pick (eqb j k) true (in_pair l (j / 64) (j % 64))
slot-put l j k h b =
    ⊎_elim
    (λ (e : j / 64 ≡ k / 64).
    let s : eqb (j % 64) (k % 64) ≡ eqb j k =
    iff (eqb (j % 64) (k % 64)) (eqb j k) (λ q. eq-eqb j k (omega (arith, eqb-true (j % 64) (k % 64) q)))
    (λ q. eq-eqb (j % 64) (k % 64) (let z : j ≡ k = eqb-true j k q in rw z)) in
    rw (e, ← s) (pair_same l (k / 64) (k % 64) (j % 64) (omega arith) (omega arith)))
    (λ (e : j / 64 ≢ k / 64).
    rw (ne_eqb j k (λ q. e (rw q))) (pair_other l (k / 64) (k % 64) (j / 64) (j % 64) e))
    (same? (j / 64) (k / 64))

-- every place fits its bits
unfoldable pub AllFit : List Place → Type 0
AllFit [] = Unit
AllFit (p ∷ ps) = Fits p × AllFit ps

pub fit_append : (ps qs : List Place) → AllFit ps → AllFit qs → AllFit (ps ++ qs)
unfolding AllFit
fit_append [] qs h k = k
fit_append (p ∷ ps) qs h k = (h.0, fit_append ps qs h.1 k)

-- the first n of an array
pub fit-first : {A : Type 0} (f : A → Place) (d : A) (l : List A) (n : ℕ) → ((i : ℕ) → i < length l → Fits (f (get_or l i d))) → AllFit (map f (take n l))
unfolding AllFit
fit-first f d [] n h = rw (take-nil n) tt
fit-first f d (x ∷ l) zero h = tt
fit-first f d (x ∷ l) (suc n) h = (h 0 (omega arith), fit-first f d l n (λ i k. h (suc i) (omega arith)))

pub mark_all-append : (pools : List ℕ) (made : ℕ) (ps qs : List Place) (m : Marks) → mark_all pools made (ps ++ qs) m ≡ mark_all pools made qs (mark_all pools made ps m)
unfolding mark_all
mark_all-append pools made [] qs m = refl
mark_all-append pools made (p ∷ ps) qs m = mark_all-append pools made ps qs (mark pools made p m)

module _ (gprs fprs : List ℕ) (made : ℕ) (bg : all_below gprs ≡ true) (bf : all_below fprs ≡ true) (few : made ≤ most_slots) where
  abbrev is_ours : Place → Bool
  is_ours p = ours gprs fprs made (number_of p)

  -- the code's test
  abbrev own : Place → Bool
  own (Slot k) = ltb k made
  own (Register r) = in_pair (pool_masks gprs fprs) (class_of r) (index_of r)

  own-ours : (p : Place) → Fits p → own p ≡ is_ours p
  own-ours (Slot k) h = sym (ours-slot gprs fprs made k h)
  own-ours (Register (Gpr r)) h = pool-has gprs r bg ∙ sym (ours_gpr gprs fprs made r h)
  own-ours (Register (Fpr r)) h = pool-has fprs r bf ∙ sym (ours_fpr gprs fprs made r)

  mark_is : (p : Place) (m : Marks) → mark (pool_masks gprs fprs) made p m ≡ pick (own p) (pick (holds p m) (refused m) (put p m)) (refused m)
  unfolding mark mark_slot mark_reg
  mark_is (Slot k) m = refl
  mark_is (Register r) m = refl

  low_gpr : (r : ℕ) → r < 256 → is_ours (Register (Gpr r)) ≡ true → r < 64
  low_gpr r h o = below_each gprs bg r (sym (ours_gpr gprs fprs made r h) ∙ o)

  low_fpr : (r : ℕ) → is_ours (Register (Fpr r)) ≡ true → r < 64
  low_fpr r o = below_each fprs bf r (sym (ours_fpr gprs fprs made r) ∙ o)

  low_slot : (k : ℕ) → k < 65536 → is_ours (Slot k) ≡ true → k < most_slots
  low_slot k h o = omega (arith, ltb-true k made (sym (ours-slot gprs fprs made k h) ∙ o))

  -- what the masks hold with one place more
  holds-put : (p q : Place) (m : Marks) → Paired m → Fits p → Fits q → is_ours p ≡ true
      → holds q (put p m) ≡ pick (eqb (number_of q) (number_of p)) true (holds q m)
  holds-put (Slot k) (Slot j) m t h l o = rw (eqb_plus slots_from j k) (slot-put m.slots j k t.slots_two (low_slot k h o))
  holds-put (Slot k) (Register (Gpr a)) m t h l o = rw (ne_eqb a (slots_from + k) (λ e. omega (arith, e)))
  holds-put (Slot k) (Register (Fpr a)) m t h l o = rw (ne_eqb (floats_from + a) (slots_from + k) (λ e. omega (arith, e)))
  holds-put (Register (Gpr b)) (Slot j) m t h l o = rw (ne_eqb (slots_from + j) b (λ e. omega (arith, e)))
  holds-put (Register (Fpr b)) (Slot j) m t h l o = rw (ne_eqb (slots_from + j) (floats_from + b) (λ e. omega (arith, e)))
  holds-put (Register (Gpr b)) (Register (Gpr a)) m t h l o =
      pair_same m.regs 0 b a (omega (arith, t.regs_two)) (low_gpr b h o)
  holds-put (Register (Gpr b)) (Register (Fpr a)) m t h l o =
      rw (ne_eqb (floats_from + a) b (λ e. omega (arith, e))) (pair_other m.regs 0 b 1 a (λ e. omega (arith, e)))
  holds-put (Register (Fpr b)) (Register (Gpr a)) m t h l o =
      rw (ne_eqb a (floats_from + b) (λ e. omega (arith, e))) (pair_other m.regs 1 b 0 a (λ e. omega (arith, e)))
  holds-put (Register (Fpr b)) (Register (Fpr a)) m t h l o =
      rw (eqb_plus floats_from a b) (pair_same m.regs 1 b a (omega (arith, t.regs_two)) (low_fpr b o))

  -- the masks hold the numbers of a list, as far as they are ours
  pub record Marked (m : Marks) (qs : List ℕ) : Type 0 where
    pub paired : Paired m
    pub so : (p : Place) → Fits p → is_ours p ≡ true → holds p m ≡ among (number_of p) qs

  put-marked : (p : Place) (m : Marks) (qs : List ℕ) → Marked m qs → Fits p → is_ours p ≡ true → Marked (put p m) (number_of p ∷ qs)
  put-marked p m qs t h o =
      record {
        paired = put_paired p m t.paired;
        so = λ q l a. holds-put p q m t.paired h l o ∙ rw (t.so q l a);
      }

  -- once refused, refused for good
  refused_one : (p : Place) (m : Marks) → m.ok ≡ false → (mark (pool_masks gprs fprs) made p m).ok ≡ false
  refused_one p m e = rw (mark_is p m) (go (own p) (holds p m))
    where
      go : (a b : Bool) → (pick a (pick b (refused m) (put p m)) (refused m)).ok ≡ false
      go true true = refl
      go true false = put_ok p m ∙ e
      go false b = refl

  refused_all : (ps : List Place) (m : Marks) → m.ok ≡ false → (mark_all (pool_masks gprs fprs) made ps m).ok ≡ false
  unfolding mark_all
  refused_all [] m e = e
  refused_all (p ∷ ps) m e = refused_all ps (mark (pool_masks gprs fprs) made p m) (refused_one p m e)

  abbrev numbers_of : List Place → List ℕ
  numbers_of ps = map number_of ps

  abbrev verdict : Bool → List Place → List ℕ → Bool
  verdict ok ps qs = pick ok (pick (all_ours gprs fprs made (numbers_of ps)) (fresh_in (numbers_of ps) qs) false) false

  ok_none : (a : Bool) → a ≡ pick a true false
  ok_none true = refl
  ok_none false = refl

  never : (a b : Bool) → false ≡ pick a (pick b false false) false
  never true true = refl
  never true false = refl
  never false b = refl

  abbrev marked_ok : List Place → Marks → Bool
  marked_ok ps m = (mark_all (pool_masks gprs fprs) made ps m).ok

  -- one place: refused, or put
  mark_none : (p : Place) (m : Marks) → Fits p → is_ours p ≡ false → mark (pool_masks gprs fprs) made p m ≡ refused m
  mark_none p m f e = mark_is p m ∙ ap (λ (t : Bool). pick t (pick (holds p m) (refused m) (put p m)) (refused m)) (own-ours p f ∙ e)

  mark-some : (p : Place) (m : Marks) → Fits p → is_ours p ≡ true → mark (pool_masks gprs fprs) made p m ≡ pick (holds p m) (refused m) (put p m)
  mark-some p m f e = mark_is p m ∙ ap (λ (t : Bool). pick t (pick (holds p m) (refused m) (put p m)) (refused m)) (own-ours p f ∙ e)

  mark-again : (p : Place) (m : Marks) → Fits p → is_ours p ≡ true → holds p m ≡ true → mark (pool_masks gprs fprs) made p m ≡ refused m
  mark-again p m f e h = mark-some p m f e ∙ rw h

  mark-new : (p : Place) (m : Marks) → Fits p → is_ours p ≡ true → holds p m ≡ false → mark (pool_masks gprs fprs) made p m ≡ put p m
  mark-new p m f e h = mark-some p m f e ∙ rw h

  pub ok_all : (ps : List Place) (m : Marks) (qs : List ℕ) → AllFit ps → Marked m qs → marked_ok ps m ≡ verdict m.ok ps qs
  unfolding mark_all fresh_in AllFit
  ok_all [] m qs f t = ok_none m.ok
  ok_all (p ∷ ps) m qs f t =
      ⊎_elim
      (λ (e : is_ours p ≡ true).
      let a : holds p m ≡ among (number_of p) qs = t.so p f.0 e in
      ⊎_elim
      (λ (h : holds p m ≡ true).
      ap (λ (x : Marks). marked_ok ps x) (mark-again p m f.0 e h)
      ∙ refused_all ps (refused m) refl
      ∙ rw (e, sym a ∙ h) (never m.ok (all_ours gprs fprs made (numbers_of ps))))
      (λ (h : holds p m ≡ false).
      ap (λ (x : Marks). marked_ok ps x) (mark-new p m f.0 e h)
      ∙ ok_all ps (put p m) (number_of p ∷ qs) f.1 (put-marked p m qs t f.0 e)
      ∙ ap (λ (k : Bool). verdict k ps (number_of p ∷ qs)) (put_ok p m)
      ∙ rw (e, sym a ∙ h))
      (both (holds p m)))
      (λ (e : is_ours p ≡ false).
      ap (λ (x : Marks). marked_ok ps x) (mark_none p m f.0 e)
      ∙ refused_all ps (refused m) refl
      ∙ rw e (never m.ok false))
      (both (is_ours p))
