-- A state is accepted where it is good and its registers are the pools', and only there.
use mathlib.Core.Path.{◌≡◌, refl, sym, ◌∙◌}
use mathlib.Core.Logic.{⊎_elim}
use mathlib.Core.Bool.{Bool, true, false}
use mathlib.Core.List.{List, [], ◌∷◌, ◌++◌, map}
use Prim.Native.Nat.{ℕ, ◌+◌, ◌-◌, ◌≤◌, ◌<◌}
use native.Mathlib.Nat.{zero-add}
use native.Mathlib.Omega.{arith}
use lib.Dec.{eqb}
use lib.ListN.{get_or}
use borrow.Author.Tests.{ltb-true, lt-ltb, eqb-true, ne_eqb}
use Rattle.base.specs.Lists.{among, distinct}
use Rattle.base.specs.Masks.{has_bit}
use Rattle.base.proofs.Numbers.{both, lt?}
use Rattle.place.specs.declared.Reg.{Reg}
use Rattle.place.specs.declared.Reg.TheVariants.{Gpr, Fpr}
use Rattle.place.specs.declared.Place.{Place}
use Rattle.place.specs.declared.Place.TheVariants.{Slot, Register}
use Rattle.place.specs.Places.{Fits, number_of, slots_from, floats_from, class_of, index_of}
use Rattle.alloc.specs.declared.Entry.{Entry}
use Rattle.alloc.specs.declared.Alloc.{Alloc}
use Rattle.alloc.specs.State.{most_slots, live, free_slots, empty_entry}
use Rattle.alloc.specs.Allocation.{is_free}
use Rattle.alloc.specs.Good.{bit, same, occurs, stacked, free_of, times, Shaped, Known, Good}
use Rattle.alloc.proofs.Counts.{same_self, stacked-append, free_low}
use Rattle.alloc.proofs.Keeps.{bit-true, known_more}
use Rattle.alloc.proofs.Outcome.{known_fits}
use Rattle.alloc.proofs.Owned.{Fitted}
use Rattle.alloc_state.specs.Judged.{all_below, active_places, free_regs, places_of, ours}
use Rattle.alloc_entry.specs.Entries.{pool_of}
use Rattle.alloc_state.specs.Marks.{slot_places, entry_places}
use Rattle.alloc_state.proofs.Distinct.{among-count, count-among, not-among-count, distinct-count, count-distinct}
use Rattle.alloc_state.proofs.Ours.{below_each, ours_gpr, ours-slot, ours_fpr, ours-each, each-ours}
use Rattle.alloc_state.proofs.Marking.{AllFit, fit-first, eqb_plus}
use Rattle.alloc_state.proofs.Judge.{free_gpr, free_fpr, free_slot_lem, free_distinct, free_cases}
use Rattle.alloc_state.proofs.States.{Accepted}

-- ---- places and their numbers, as counts
-- the same place has the same number
same_le : (p q : Place) → same p q ≤ bit (eqb (number_of p) (number_of q))
same_le (Slot a) (Slot b) = rw (eqb_plus slots_from a b) (omega arith)
same_le (Slot a) (Register r) = omega arith
same_le (Register r) (Slot b) = omega arith
same_le (Register (Gpr a)) (Register (Gpr b)) = omega arith
same_le (Register (Gpr a)) (Register (Fpr b)) = omega arith
same_le (Register (Fpr a)) (Register (Gpr b)) = omega arith
same_le (Register (Fpr a)) (Register (Fpr b)) = rw (eqb_plus floats_from a b) (omega arith)

-- a place with the number that its kind has
abbrev Near : Place → Type 0
Near (Slot k) = k < 65536
Near (Register (Gpr r)) = r < slots_from
Near (Register (Fpr r)) = Unit

none : (a b n : ℕ) → (a ≡ b → ⊥) → bit (eqb a b) ≤ n
none a b n h = rw (ne_eqb a b h) (omega arith)

-- the same number is that of the same place
same_ge : (p q : Place) → Near p → Fits q → bit (eqb (number_of p) (number_of q)) ≤ same p q
same_ge (Slot a) (Slot b) h f = rw (eqb_plus slots_from a b) (omega arith)
same_ge (Slot a) (Register (Gpr b)) h f = none (slots_from + a) b 0 (λ e. omega (arith, e))
same_ge (Slot a) (Register (Fpr b)) h f = none (slots_from + a) (floats_from + b) 0 (λ e. omega (arith, e))
same_ge (Register (Gpr a)) (Slot b) h f = none a (slots_from + b) 0 (λ e. omega (arith, e))
same_ge (Register (Gpr a)) (Register (Gpr b)) h f = omega arith
same_ge (Register (Gpr a)) (Register (Fpr b)) h f = none a (floats_from + b) 0 (λ e. omega (arith, e))
same_ge (Register (Fpr a)) (Slot b) h f = none (floats_from + a) (slots_from + b) 0 (λ e. omega (arith, e))
same_ge (Register (Fpr a)) (Register (Gpr b)) h f = none (floats_from + a) b 0 (λ e. omega (arith, e))
same_ge (Register (Fpr a)) (Register (Fpr b)) h f = rw (eqb_plus floats_from a b) (omega arith)

same_number : (a b : ℕ) (t : Bool) → eqb a b ≡ t → 0 < bit t → a ≡ b
same_number a b true e h = eqb-true a b e
same_number a b false e h = absurd (omega arith)

-- ---- the active entries
active_le : (p : Place) (es : List Entry) → occurs p es ≤ stacked (number_of p) (active_places es)
unfolding occurs stacked active_places
active_le p [] = omega arith
active_le p (e ∷ es) = omega (arith, same_le p e.place, active_le p es)

active_ge : (p : Place) (es : List Entry) → Near p → ((q : Place) → 0 < occurs q es → Fits q) → stacked (number_of p) (active_places es) ≤ occurs p es
unfolding occurs stacked active_places
active_ge p [] h f = omega arith
active_ge p (e ∷ es) h f =
    omega (
      arith,
      same_ge p e.place h (f e.place (omega (arith, same_self e.place))),
      active_ge p es h (λ q l. f q (omega arith)),
    )

-- ---- the free slots
abbrev slot_numbers : List ℕ → List ℕ
slot_numbers ks = map (λ k. slots_from + k) ks

slots_is : (k : ℕ) (ks : List ℕ) → stacked (slots_from + k) (slot_numbers ks) ≡ stacked k ks
unfolding stacked
slots_is k [] = refl
slots_is k (j ∷ ks) = rw (eqb_plus slots_from k j, slots_is k ks)

-- no register has a slot's number
slots_none : (p : ℕ) (ks : List ℕ) → ((k : ℕ) → 0 < stacked k ks → p ≡ slots_from + k → ⊥) → stacked p (slot_numbers ks) ≡ 0
unfolding stacked
slots_none p [] h = refl
slots_none p (k ∷ ks) h =
    omega (
      arith,
      none p (slots_from + k) 0 (λ e. h k (omega (arith, same_self (Slot k))) e),
      slots_none p ks (λ j l e. h j (omega arith) e),
    )

-- ---- the free registers
free_case : (n : ℕ) (s : Alloc) (b : Bool) → (among n (free_regs s) ≡ true → b ≡ true) → stacked n (free_regs s) ≤ bit b
free_case n s b h =
    ⊎_elim
    (λ (e : among n (free_regs s) ≡ true). rw (h e) (distinct-count (free_regs s) (free_distinct s) n))
    (λ (e : among n (free_regs s) ≡ false). omega (arith, not-among-count n (free_regs s) e))
    (both (among n (free_regs s)))

free_back : (r : Reg) (s : Alloc) → Near (Register r) → among (number_of (Register r)) (free_regs s) ≡ true → is_free r s ≡ true
unfolding is_free
free_back (Gpr r) s h a =
    free_cases s r a (λ x. let e : r ≡ x.k = x.is ∙ zero-add x.k in rw e x.has) (λ x. absurd (omega (arith, x.is)))
free_back (Fpr r) s h a =
    free_cases s (floats_from + r) a (λ x. absurd (omega (arith, x.is, x.low)))
    (λ x. let e : r ≡ x.k = omega (arith, x.is) in rw e x.has)

is_free_lem : (r : Reg) (s : Alloc) → is_free r s ≡ has_bit (get_or s.free (class_of r) 0) (index_of r)
unfolding is_free
is_free_lem r s = refl

free_there : (r : Reg) (s : Alloc) → Shaped s → is_free r s ≡ true → among (number_of (Register r)) (free_regs s) ≡ true
free_there (Gpr r) s h f = free_gpr s r (free_low (Gpr r) s h f) ∙ sym (is_free_lem (Gpr r) s) ∙ f
free_there (Fpr r) s h f = free_fpr s r (free_low (Fpr r) s h f) ∙ sym (is_free_lem (Fpr r) s) ∙ f

free_le : (r : Reg) (s : Alloc) → Shaped s → bit (is_free r s) ≤ stacked (number_of (Register r)) (free_regs s)
free_le r s h =
    ⊎_elim
    (λ (e : is_free r s ≡ true). rw e (among-count (number_of (Register r)) (free_regs s) (free_there r s h e)))
    (λ (e : is_free r s ≡ false). rw e (omega arith))
    (both (is_free r s))

-- ---- all places of a state
places_is : (n : ℕ) (s : Alloc) → stacked n (places_of s) ≡ stacked n (active_places (live s)) + (stacked n (slot_numbers (free_slots s)) + stacked n (free_regs s))
unfolding places_of
places_is n s =
    omega (
      arith,
      stacked-append n (active_places (live s) ++ slot_numbers (free_slots s)) (free_regs s),
      stacked-append n (active_places (live s)) (slot_numbers (free_slots s)),
    )

free_slots_lem : (k : ℕ) (s : Alloc) → free_of (Slot k) s ≡ stacked k (free_slots s)
unfolding free_of
free_slots_lem k s = refl

free_regs_lem : (r : Reg) (s : Alloc) → free_of (Register r) s ≡ bit (is_free r s)
unfolding free_of
free_regs_lem r s = refl

-- a place stands no oftener than its number
times_le : (p : Place) (s : Alloc) → Shaped s → times p s ≤ stacked (number_of p) (places_of s)
times_le (Slot k) s h =
    omega (
      arith,
      places_is (slots_from + k) s,
      active_le (Slot k) (live s),
      slots_is k (free_slots s),
      free_slots_lem k s,
    )
times_le (Register r) s h =
    omega (
      arith,
      places_is (number_of (Register r)) s,
      active_le (Register r) (live s),
      free_regs_lem r s,
      free_le r s h,
    )

-- a number stands no oftener than its place, where every place fits its bits
pub record AllFits (s : Alloc) : Type 0 where
  pub entries : (p : Place) → 0 < occurs p (live s) → Fits p
  pub spares : (k : ℕ) → 0 < stacked k (free_slots s) → k < 65536

reg_slots : (r : Reg) (s : Alloc) → AllFits s → Near (Register r) → stacked (number_of (Register r)) (slot_numbers (free_slots s)) ≡ 0
reg_slots (Gpr r) s f h = slots_none r (free_slots s) (λ k l e. omega arith)
reg_slots (Fpr r) s f h = slots_none (floats_from + r) (free_slots s) (λ k l e. omega (arith, f.spares k l))

times_ge : (p : Place) (s : Alloc) → AllFits s → Near p → stacked (number_of p) (places_of s) ≤ times p s
times_ge (Slot k) s f h =
    omega (
      arith,
      places_is (slots_from + k) s,
      active_ge (Slot k) (live s) h f.entries,
      slots_is k (free_slots s),
      free_slots_lem k s,
      not-among-count (slots_from + k) (free_regs s) (free_slot_lem s k h),
    )
times_ge (Register r) s f h =
    omega (
      arith,
      places_is (number_of (Register r)) s,
      active_ge (Register r) (live s) h f.entries,
      reg_slots r s f h,
      free_regs_lem r s,
      free_case (number_of (Register r)) s (is_free r s) (free_back r s h),
    )

-- ---- what fits
same_fits : (p q : Place) → 0 < same p q → Fits q → Fits p
same_fits (Slot a) (Slot b) h f = let e : a ≡ b = same_number a b (eqb a b) refl h in omega arith
same_fits (Slot a) (Register r) h f = absurd (omega arith)
same_fits (Register r) (Slot b) h f = absurd (omega arith)
same_fits (Register (Gpr a)) (Register (Gpr b)) h f = let e : a ≡ b = same_number a b (eqb a b) refl h in omega arith
same_fits (Register (Gpr a)) (Register (Fpr b)) h f = absurd (omega arith)
same_fits (Register (Fpr a)) (Register (Gpr b)) h f = absurd (omega arith)
same_fits (Register (Fpr a)) (Register (Fpr b)) h f = let e : a ≡ b = same_number a b (eqb a b) refl h in omega arith

entries_fit : (es : List Entry) → AllFit (entry_places es) → (p : Place) → 0 < occurs p es → Fits p
unfolding AllFit occurs
entries_fit [] f p l = absurd (omega arith)
entries_fit (e ∷ es) f p l =
    ⊎_elim
    (λ (h : 0 < same p e.place). same_fits p e.place h f.0)
    (λ (h : same p e.place ≤ 0). entries_fit es f.1 p (omega arith))
    (lt? 0 (same p e.place))

spares_fit : (ks : List ℕ) → AllFit (slot_places ks) → (k : ℕ) → 0 < stacked k ks → k < 65536
unfolding AllFit stacked
spares_fit [] f k l = absurd (omega arith)
spares_fit (j ∷ ks) f k l =
    ⊎_elim
    (λ (h : 0 < bit (eqb k j)). same_fits (Slot k) (Slot j) h f.0)
    (λ (h : bit (eqb k j) ≤ 0). spares_fit ks f.1 k (omega arith))
    (lt? 0 (bit (eqb k j)))

pub fitted_fits : (s : Alloc) → Fitted s → AllFits s
fitted_fits s f =
    record {
      entries = entries_fit (live s) (fit-first (λ (e : Entry). e.place) empty_entry s.active s.count f.entries);
      spares = spares_fit (free_slots s) (fit-first Slot 0 s.spare s.spares f.spares);
    }

pub good_fits : (s : Alloc) → Good s → AllFits s
good_fits s g =
    record {
      entries = λ p l. known_fits p (known_more s.made most_slots p g.capped (g.known p (omega arith)));
      spares = λ k l. known_fits (Slot k) (known_more s.made most_slots (Slot k) g.capped (g.known (Slot k) (omega (arith, free_slots_lem k s))));
    }

-- ---- good, with the pools' registers
pub record Sound (gprs fprs : List ℕ) (s : Alloc) : Type 0 where
  pub good : Good s
  pub pools : (r : Reg) → 0 < times (Register r) s → among (index_of r) (pool_of gprs fprs (class_of r)) ≡ true

module _ (gprs fprs : List ℕ) (s : Alloc) where
  -- a number among the places of an accepted state is ours
  standing : Shaped s → Accepted gprs fprs s → (p : Place) → 0 < times p s → ours gprs fprs s.made (number_of p) ≡ true
  standing sh a p l =
      ours-each gprs fprs s.made (places_of s) a.are_all_ours (number_of p)
      (count-among (number_of p) (places_of s) (omega (arith, times_le p s sh)))

  module _ (sh : Shaped s) (f : AllFits s) (a : Accepted gprs fprs s) where
    times-fit : (p : Place) → 0 < times p s → Fits p
    times-fit (Slot k) l =
        ⊎_elim
        (λ (h : 0 < occurs (Slot k) (live s)). f.entries (Slot k) h)
        (λ (h : occurs (Slot k) (live s) ≤ 0). f.spares k (omega (arith, free_slots_lem k s)))
        (lt? 0 (occurs (Slot k) (live s)))
    times-fit (Register r) l =
        ⊎_elim
        (λ (h : 0 < occurs (Register r) (live s)). f.entries (Register r) h)
        (λ (h : occurs (Register r) (live s) ≤ 0).
        known_fits (Register r) (free_low r s sh (bit-true (is_free r s) (omega (arith, free_regs_lem r s)))))
        (lt? 0 (occurs (Register r) (live s)))

    stands_in_pool : (r : Reg) → 0 < times (Register r) s → among (index_of r) (pool_of gprs fprs (class_of r)) ≡ true
    stands_in_pool (Gpr r) l = sym (ours_gpr gprs fprs s.made r (times-fit (Register (Gpr r)) l)) ∙ standing sh a (Register (Gpr r)) l
    stands_in_pool (Fpr r) l = sym (ours_fpr gprs fprs s.made r) ∙ standing sh a (Register (Fpr r)) l

    is_known : (p : Place) → 0 < times p s → Known s.made p
    is_known (Slot k) l =
        ltb-true k s.made (sym (ours-slot gprs fprs s.made k (times-fit (Slot k) l)) ∙ standing sh a (Slot k) l)
    is_known (Register (Gpr r)) l = below_each gprs a.low_gprs r (stands_in_pool (Gpr r) l)
    is_known (Register (Fpr r)) l = below_each fprs a.low_fprs r (stands_in_pool (Fpr r) l)

    pub accepted_sound : Sound gprs fprs s
    accepted_sound =
        record {
          good = record {
            shape = sh;
            within = a.counts.actives;
            spared = a.counts.spares;
            capped = a.counts.made;
            once = λ p. omega (arith, times_le p s sh, distinct-count (places_of s) a.all_once (number_of p));
            known = is_known;
          };
          pools = stands_in_pool;
        }

-- ---- and back
-- every number is that of a place
by_number : (P : ℕ → Type 0) → ((p : Place) → Near p → P (number_of p)) → (n : ℕ) → P n
by_number P h n =
    ⊎_elim
    (λ (l : n < slots_from). h (Register (Gpr n)) l)
    (λ (l : slots_from ≤ n).
    ⊎_elim
    (λ (k : n < floats_from).
    let e : slots_from + (n - slots_from) ≡ n = omega arith in
    rw e at (h (Slot (n - slots_from)) (omega arith)))
    (λ (k : floats_from ≤ n).
    let e : floats_from + (n - floats_from) ≡ n = omega arith in
    rw e at (h (Register (Fpr (n - floats_from))) tt))
    (lt? n floats_from))
    (lt? n slots_from)

pub good_distinct : (s : Alloc) → Good s → distinct (places_of s) ≡ true
good_distinct s g =
    count-distinct (places_of s)
    (by_number (λ (n : ℕ). stacked n (places_of s) ≤ 1) (λ p h. omega (arith, times_ge p s (good_fits s g) h, g.once p)))

module _ (gprs fprs : List ℕ) (s : Alloc) (o : Sound gprs fprs s) where
  place-ours : (p : Place) → Near p → 0 < times p s → ours gprs fprs s.made (number_of p) ≡ true
  place-ours (Slot k) h l = ours-slot gprs fprs s.made k h ∙ lt-ltb k s.made (o.good.known (Slot k) l)
  place-ours (Register (Gpr r)) h l = ours_gpr gprs fprs s.made r h ∙ o.pools (Gpr r) l
  place-ours (Register (Fpr r)) h l = ours_fpr gprs fprs s.made r ∙ o.pools (Fpr r) l

  pub sound_accepted : all_below gprs ≡ true → all_below fprs ≡ true → Accepted gprs fprs s
  sound_accepted bg bf =
      record {
        low_gprs = bg;
        low_fprs = bf;
        counts = record { actives = o.good.within; spares = o.good.spared; made = o.good.capped };
        are_all_ours = each-ours gprs fprs s.made (places_of s)
            (by_number (λ (n : ℕ). among n (places_of s) ≡ true → ours gprs fprs s.made n ≡ true)
            (λ p h a.
            place-ours p h
            (omega (arith, times_ge p s (good_fits s o.good) h, among-count (number_of p) (places_of s) a))));
        all_once = good_distinct s o.good;
      }
