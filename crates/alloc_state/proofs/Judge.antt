-- The marking pass computes what `state_ok` says of a state's places.
use mathlib.Core.Path.{◌≡◌, refl, sym, ap, ◌∙◌}
use mathlib.Core.Bool.{Bool, true, false}
use mathlib.Core.List.{List, [], ◌∷◌, ◌++◌, map, append-nil}
use Prim.Native.Nat.{ℕ, zero, suc, ◌+◌, ◌/◌, ◌%◌, ◌≤◌, ◌<◌}
use native.Mathlib.Nat.{zero-add}
use native.Mathlib.Omega.{arith}
use lib.ListN.{get_or}
use Rattle.base.specs.Choice.{pick}
use Rattle.base.specs.Lists.{among, distinct}
use Rattle.base.specs.Masks.{has_bit}
use Rattle.base.proofs.Masks.{has_none}
use Rattle.place.specs.declared.Reg.TheVariants.{Gpr, Fpr}
use Rattle.place.specs.declared.Place.{Place}
use Rattle.place.specs.declared.Place.TheVariants.{Slot, Register}
use Rattle.place.specs.Places.{Fits, number_of, slots_from, floats_from}
use Rattle.alloc.specs.declared.Entry.{Entry}
use Rattle.alloc.specs.declared.Alloc.{Alloc}
use Rattle.alloc.specs.State.{most_slots, live, free_slots, empty_entry}
use Rattle.alloc.proofs.Owned.{Fitted}
use Rattle.alloc_state.specs.declared.Marks.{Marks}
use Rattle.alloc_state.specs.Judged.{all_below, in_mask, active_places, free_regs, places_of, ours, all_ours}
use Rattle.alloc_state.specs.Marks.{pool_masks, within, marks_of, mark_all, slot_places, entry_places}
use Rattle.alloc_state.proofs.Distinct.{iff, and_intro, and_left, and_right, among-append, distinct_swap, fresh_in, fresh-distinct}
use Rattle.alloc_state.proofs.Ours.{pool-has, below_each, mask_in, whole_out, whole-past, From, whole_back, mask_distinct, within-each, each_within, ours_gpr, ours_fpr, ours-append, ours-each, each-ours}
use Rattle.alloc_state.proofs.Marking.{holds, Paired, Marked, AllFit, fit_append, fit-first, mark_all-append, ok_all}

-- ---- the free registers
module _ (s : Alloc) where
  abbrev pub gmask : ℕ
  gmask = get_or s.free 0 0

  abbrev pub fmask : ℕ
  fmask = get_or s.free 1 0

  pub free_slot_lem : (k : ℕ) → k < 65536 → among (slots_from + k) (free_regs s) ≡ false
  unfolding free_regs
  free_slot_lem k h =
      among-append (slots_from + k) (in_mask gmask 0 0 64) (in_mask fmask floats_from 0 64)
      ∙ rw (whole-past gmask 0 (slots_from + k) (omega arith)) (whole_out fmask floats_from (slots_from + k) (omega arith))

  pub free_gpr : (r : ℕ) → r < 64 → among r (free_regs s) ≡ has_bit gmask r
  unfolding free_regs
  free_gpr r h =
      among-append r (in_mask gmask 0 0 64) (in_mask fmask floats_from 0 64)
      ∙ rw (whole_out fmask floats_from r (omega arith), low) (or_none (has_bit gmask r))
    where
      or_none : (a : Bool) → pick a true false ≡ a
      or_none true = refl
      or_none false = refl

      low : among r (in_mask gmask 0 0 64) ≡ has_bit gmask r
      low = rw (zero-add r) at (mask_in gmask 0 0 64 r (omega arith) (omega arith))

  pub free_fpr : (r : ℕ) → r < 64 → among (floats_from + r) (free_regs s) ≡ has_bit fmask r
  unfolding free_regs
  free_fpr r h =
      among-append (floats_from + r) (in_mask gmask 0 0 64) (in_mask fmask floats_from 0 64)
      ∙ rw (whole-past gmask 0 (floats_from + r) (omega arith)) (mask_in fmask floats_from 0 64 r (omega arith) (omega arith))

  pub free_distinct : distinct (free_regs s) ≡ true
  unfolding free_regs
  free_distinct =
      mask_distinct gmask 0 0 64 (in_mask fmask floats_from 0 64)
      (rw append-nil at (mask_distinct fmask floats_from 0 64 [] refl (λ p a b. refl)))
      (λ p a b. whole_out fmask floats_from p (omega arith))

  -- each is one of the two masks
  pub free_cases : {P : Type 0} (p : ℕ) → among p (free_regs s) ≡ true → (From gmask 0 p → P) → (From fmask floats_from p → P) → P
  unfolding free_regs
  free_cases {P} p a f g =
      go (among p (in_mask gmask 0 0 64)) (among p (in_mask fmask floats_from 0 64)) refl refl
      (sym (among-append p (in_mask gmask 0 0 64) (in_mask fmask floats_from 0 64)) ∙ a)
    where
      go : (x y : Bool) → among p (in_mask gmask 0 0 64) ≡ x → among p (in_mask fmask floats_from 0 64) ≡ y → pick x true y ≡ true → P
      go true y e q h = f (whole_back gmask 0 p e)
      go false y e q h = g (whole_back fmask floats_from p (q ∙ h))

-- ---- the first marks: the free registers
module _ (gprs fprs : List ℕ) (s : Alloc) (fit : Fitted s) (bg : all_below gprs ≡ true) (bf : all_below fprs ≡ true) (few : s.made ≤ most_slots) where
  abbrev pools : List ℕ
  pools = pool_masks gprs fprs

  abbrev is_ours : ℕ → Bool
  is_ours p = ours gprs fprs s.made p

  abbrev first : Marks
  first = marks_of pools s

  zero_pair : (c : ℕ) → ◌≡◌ {A = ℕ} (get_or (0 ∷ 0 ∷ []) c 0) 0
  zero_pair zero = refl
  zero_pair (suc zero) = refl
  zero_pair (suc (suc c)) = refl

  first_paired : Paired first
  unfolding marks_of
  first_paired = record { regs_two = fit.shape.frees; slots_two = refl }

  first_so : (p : Place) → Fits p → is_ours (number_of p) ≡ true → holds p first ≡ among (number_of p) (free_regs s)
  unfolding marks_of
  first_so (Slot k) h o = ap (λ (m : ℕ). has_bit m (k % 64)) (zero_pair (k / 64)) ∙ has_none (k % 64) ∙ sym (free_slot_lem s k h)
  first_so (Register (Gpr r)) h o = sym (free_gpr s r (below_each gprs bg r (sym (ours_gpr gprs fprs s.made r h) ∙ o)))
  first_so (Register (Fpr r)) h o = sym (free_fpr s r (below_each fprs bf r (sym (ours_fpr gprs fprs s.made r) ∙ o)))

  first-marked : Marked gprs fprs s.made bg bf few first (free_regs s)
  first-marked = record { paired = first_paired; so = first_so }

  -- nothing is refused of them where they are all ours
  gpr_ours : (k : ℕ) → k < 64 → is_ours k ≡ has_bit (get_or pools 0 0) k
  gpr_ours k l = ours_gpr gprs fprs s.made k (omega arith) ∙ sym (pool-has gprs k bg)

  fpr_ours : (k : ℕ) → is_ours (floats_from + k) ≡ has_bit (get_or pools 1 0) k
  fpr_ours k = ours_fpr gprs fprs s.made k ∙ sym (pool-has fprs k bf)

  first_ok : first.ok ≡ all_ours gprs fprs s.made (free_regs s)
  unfolding marks_of
  first_ok =
      iff _ _
      (λ w.
      let x : Bool = within (gmask s) (get_or pools 0 0) in
      let y : Bool = within (fmask s) (get_or pools 1 0) in
      let g : x ≡ true = and_left x y w in
      let f : y ≡ true = and_right x y w in
      each-ours gprs fprs s.made (free_regs s)
      (λ p a.
      free_cases s p a
      (λ x. let e : p ≡ x.k = x.is ∙ zero-add x.k in rw e (gpr_ours x.k x.low ∙ within-each (gmask s) (get_or pools 0 0) g x.k x.has))
      (λ x. rw x.is (fpr_ours x.k ∙ within-each (fmask s) (get_or pools 1 0) f x.k x.has))))
      (λ w.
      let each : (p : ℕ) → among p (free_regs s) ≡ true → is_ours p ≡ true = ours-each gprs fprs s.made (free_regs s) w in
      and_intro (within (gmask s) (get_or pools 0 0)) (within (fmask s) (get_or pools 1 0))
      (each_within (gmask s) (get_or pools 0 0) (fit.shape.masks 0) (λ k l h. sym (gpr_ours k l) ∙ each k (free_gpr s k l ∙ h)))
      (each_within (fmask s) (get_or pools 1 0) (fit.shape.masks 1) (λ k l h. sym (fpr_ours k) ∙ each (floats_from + k) (free_fpr s k l ∙ h))))

-- ---- the numbers of the places
numbers-append : (ps qs : List Place) → map number_of (ps ++ qs) ≡ map number_of ps ++ map number_of qs
numbers-append [] qs = refl
numbers-append (p ∷ ps) qs = ap (λ (l : List ℕ). number_of p ∷ l) (numbers-append ps qs)

entry-numbers : (es : List Entry) → map number_of (entry_places es) ≡ active_places es
unfolding active_places
entry-numbers [] = refl
entry-numbers (e ∷ es) = ap (λ (l : List ℕ). number_of e.place ∷ l) (entry-numbers es)

slot-numbers : (ks : List ℕ) → map number_of (slot_places ks) ≡ map (λ k. slots_from + k) ks
slot-numbers [] = refl
slot-numbers (k ∷ ks) = ap (λ (l : List ℕ). (slots_from + k) ∷ l) (slot-numbers ks)

-- ---- the whole pass
order : (a b c d : Bool) → pick c (pick (pick b a false) d false) false ≡ pick (pick (pick a b false) c false) d false
order true true true d = refl
order true true false d = refl
order true false true d = refl
order true false false d = refl
order false true true d = refl
order false true false d = refl
order false false true d = refl
order false false false d = refl

pub judged-marks : (gprs fprs : List ℕ) (s : Alloc) → Fitted s → all_below gprs ≡ true → all_below fprs ≡ true → s.made ≤ most_slots
    → (mark_all (pool_masks gprs fprs) s.made (entry_places (live s))
    (mark_all (pool_masks gprs fprs) s.made (slot_places (free_slots s)) (marks_of (pool_masks gprs fprs) s))).ok
    ≡ pick (all_ours gprs fprs s.made (places_of s)) (distinct (places_of s)) false
unfolding places_of
judged-marks gprs fprs s fit bg bf few =
    let pools : List ℕ = pool_masks gprs fprs in
    let A : List Place = entry_places (live s) in
    let B : List Place = slot_places (free_slots s) in
    let a : List ℕ = active_places (live s) in
    let b : List ℕ = map (λ k. slots_from + k) (free_slots s) in
    let c : List ℕ = free_regs s in
    let m : Marks = marks_of pools s in
    let n : map number_of (B ++ A) ≡ b ++ a = numbers-append B A ∙ rw (slot-numbers (free_slots s), entry-numbers (live s)) in
    let fits : AllFit (B ++ A) =
    fit_append B A (fit-first Slot 0 s.spare s.spares fit.spares)
    (fit-first (λ (e : Entry). e.place) empty_entry s.active s.count fit.entries) in
    let d : fresh_in (b ++ a) c ≡ distinct ((a ++ b) ++ c) = fresh-distinct (b ++ a) c (free_distinct s) ∙ distinct_swap a b c in
    let o : all_ours gprs fprs s.made ((a ++ b) ++ c)
    ≡ pick (pick (all_ours gprs fprs s.made a) (all_ours gprs fprs s.made b) false) (all_ours gprs fprs s.made c) false =
    ours-append gprs fprs s.made (a ++ b) c ∙ rw (ours-append gprs fprs s.made a b) in
    ap (λ (x : Marks). x.ok) (sym (mark_all-append pools s.made B A m))
    ∙ ok_all gprs fprs s.made bg bf few (B ++ A) m c fits (first-marked gprs fprs s fit bg bf few)
    ∙ rw (n, first_ok gprs fprs s fit bg bf few, d, ours-append gprs fprs s.made b a, o)
    (order (all_ours gprs fprs s.made a) (all_ours gprs fprs s.made b) (all_ours gprs fprs s.made c) (distinct ((a ++ b) ++ c)))
