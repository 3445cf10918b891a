-- How often a place stands among the active and the free, through every step of the allocator.
use mathlib.Core.Path.{◌≡◌, refl, sym, ap, ◌∙◌}
use mathlib.Core.Bool.{Bool, true, false}
use mathlib.Core.List.{List, [], ◌∷◌, ◌++◌}
use Prim.Native.Nat.{ℕ, suc, ◌+◌, ◌-◌, ◌^◌, ◌≤◌, ◌<◌}
use native.Mathlib.Omega.{arith}
use native.Mathlib.Numerals.{add-one}
use lib.Dec.{leb, eqb}
use lib.ListN.{length, get_or, take, drop, set, length-set}
use lib.Seq.{take-append_seam, take-suc-set, take-suc, get_or-set_same, get_or-set_other}
use borrow.Author.Tests.{eqb-true, eqb-false, eq-eqb}
use Rattle.base.specs.Choice.{pick}
use Rattle.base.specs.Masks.{has_bit, with_bit, without_bit}
use Rattle.base.proofs.Masks.{has_high, has-with_other, has-without-same, without_sub, with_lt, without_le}
use Rattle.base.proofs.Numbers.{lt?}
use Rattle.place.specs.declared.Reg.{Reg}
use Rattle.place.specs.declared.Reg.TheVariants.{Gpr, Fpr}
use Rattle.place.specs.declared.Place.{Place}
use Rattle.place.specs.declared.Place.TheVariants.{Slot, Register}
use Rattle.place.specs.Places.{class_of, index_of}
use mathlib.Core.Logic.{⊎_elim}
use Rattle.alloc.specs.declared.Entry.{Entry}
use Rattle.alloc.specs.declared.Alloc.{Alloc}
use Rattle.alloc.specs.State.{most_slots, live, with_active, with_slots, over}
use Rattle.alloc.specs.Allocation.{kept_of, gone_of, free_reg, free_slot, release, release_all, expire_of, is_free, take_reg, entered}
use Rattle.alloc.specs.Good.{bit, same, occurs, stacked, free_of, times, Shaped}
use Rattle.alloc.proofs.Arrays.{set_below}
use Rattle.alloc.proofs.Expiry.{is_slot, slots_in, slots_gone, spares_release}

-- ---- counts over lists
pub same_self : (p : Place) → same p p ≡ 1
same_self (Slot k) = ap bit (eq-eqb k k refl)
same_self (Register (Gpr r)) = ap bit (eq-eqb r r refl)
same_self (Register (Fpr r)) = ap bit (eq-eqb r r refl)

pub occurs-append : (p : Place) (xs ys : List Entry) → occurs p (xs ++ ys) ≡ occurs p xs + occurs p ys
unfolding occurs
occurs-append p [] ys = omega arith
occurs-append p (x ∷ xs) ys = omega (arith, occurs-append p xs ys)

pub occurs_one : (p : Place) (e : Entry) → occurs p (e ∷ []) ≡ same p e.place
unfolding occurs
occurs_one p e = omega arith

pub stacked-append : (k : ℕ) (xs ys : List ℕ) → stacked k (xs ++ ys) ≡ stacked k xs + stacked k ys
unfolding stacked
stacked-append k [] ys = omega arith
stacked-append k (x ∷ xs) ys = omega (arith, stacked-append k xs ys)

split_one : (p : Place) (x : Entry) (b : Bool) (k g : List Entry)
    → occurs p (pick b k (x ∷ k)) + occurs p (pick b (x ∷ g) g) ≡ same p x.place + (occurs p k + occurs p g)
unfolding occurs
split_one p x true k g = omega arith
split_one p x false k g = omega arith

-- each entry is kept or goes
pub occurs-split : (p : Place) (at : ℕ) (xs : List Entry) → occurs p (kept_of at xs) + occurs p (gone_of at xs) ≡ occurs p xs
unfolding occurs kept_of gone_of
occurs-split p at [] = refl
occurs-split p at (x ∷ xs) =
    split_one p x (leb x.end at) (kept_of at xs) (gone_of at xs)
    ∙ ap (λ (n : ℕ). same p x.place + n) (occurs-split p at xs)

pub occurs-kept : (p : Place) (at : ℕ) (xs : List Entry) → occurs p (kept_of at xs) ≤ occurs p xs
occurs-kept p at xs = omega (arith, occurs-split p at xs)

-- ---- masks, as counts
pub bit_le : (b : Bool) → bit b ≤ 1
bit_le true = omega arith
bit_le false = omega arith

with_case : (m k j : ℕ) (b : Bool) → eqb j k ≡ b → bit (has_bit (with_bit m k) j) ≤ bit (has_bit m j) + bit b
with_case m k j true e = omega (arith, bit_le (has_bit (with_bit m k) j))
with_case m k j false e = rw (has-with_other m k j (eqb-false j k e)) (omega arith)

with-count : (m k j : ℕ) → bit (has_bit (with_bit m k) j) ≤ bit (has_bit m j) + bit (eqb j k)
with-count m k j = with_case m k j (eqb j k) refl

sub-bit : (a b : Bool) → (a ≡ true → b ≡ true) → bit a ≤ bit b
sub-bit true b h = rw (h refl) (omega arith)
sub-bit false b h = omega arith

without_case : (m k j : ℕ) (b : Bool) → k < 64 → has_bit m k ≡ true → eqb j k ≡ b → bit (has_bit (without_bit m k) j) + bit b ≤ bit (has_bit m j)
without_case m k j true l h e = let q : j ≡ k = eqb-true j k e in rw (q, has-without-same m k l, h) (omega arith)
without_case m k j false l h e = omega (arith, sub-bit (has_bit (without_bit m k) j) (has_bit m j) (without_sub m k j))

without-count : (m k j : ℕ) → k < 64 → has_bit m k ≡ true → bit (has_bit (without_bit m k) j) + bit (eqb j k) ≤ bit (has_bit m j)
without-count m k j l h = without_case m k j (eqb j k) l h refl

-- a register that is free is below 64
low : (m k : ℕ) → m < 2 ^ 64 → has_bit m k ≡ true → k < 64
low m k h e =
    ⊎_elim
    (λ (l : k < 64). l)
    (λ (l : 64 ≤ k). absurd (let z : true ≡ false = sym e ∙ has_high m k h l in let n : ◌≡◌ {A = ℕ} 0 1 = cc in omega arith))
    (lt? k 64)

pub free_low : (r : Reg) (s : Alloc) → Shaped s → is_free r s ≡ true → index_of r < 64
unfolding is_free
free_low r s h f = low (get_or s.free (class_of r) 0) (index_of r) (h.masks (class_of r)) f

-- ---- shapes
pub shaped_release : (q : Place) (s : Alloc) → Shaped s → Shaped (release q s)
unfolding release free_reg free_slot
shaped_release (Slot k) s h =
    record { actives = h.actives; frees = h.frees; stack = simp length-set h.stack; masks = h.masks }
shaped_release (Register r) s h =
    record {
      actives = h.actives;
      frees = simp length-set h.frees;
      stack = h.stack;
      masks = set_below (2 ^ 64) s.free (class_of r) (with_bit (get_or s.free (class_of r) 0) (index_of r)) h.masks
          (with_lt (get_or s.free (class_of r) 0) (index_of r) (h.masks (class_of r)));
    }

pub shaped_all : (xs : List Entry) (s : Alloc) → Shaped s → Shaped (release_all xs s)
unfolding release_all
shaped_all [] s h = h
shaped_all (x ∷ xs) s h = shaped_all xs (release x.place s) (shaped_release x.place s h)

pub shaped_reg : (r : Reg) (s : Alloc) → Shaped s → Shaped (take_reg r s)
unfolding take_reg
shaped_reg r s h =
    let m : ℕ = get_or s.free (class_of r) 0 in
    record {
      actives = h.actives;
      frees = simp length-set h.frees;
      stack = h.stack;
      masks = set_below (2 ^ 64) s.free (class_of r) (without_bit m (index_of r)) h.masks
          (omega (arith, without_le m (index_of r), h.masks (class_of r)));
    }

pub shaped_slots : (n k : ℕ) (s : Alloc) → Shaped s → Shaped (with_slots s.spare n k s)
shaped_slots n k s h = record { actives = h.actives; frees = h.frees; stack = h.stack; masks = h.masks }

pub shaped_entered : (e : Entry) (s : Alloc) → Shaped s → Shaped (entered e s)
shaped_entered e s h =
    record { actives = simp length-set h.actives; frees = h.frees; stack = h.stack; masks = h.masks }

-- ---- a release adds at most what it releases
free_release : (p q : Place) (s : Alloc) → Shaped s → is_slot q + s.spares ≤ most_slots → free_of p (release q s) ≤ free_of p s + same p q
unfolding free_of release free_reg free_slot is_free stacked
free_release (Slot k) (Slot j) s h l =
    rw (add-one s.spares, take-suc-set s.spare s.spares j (omega (arith, h.stack)), stacked-append)
    (omega arith)
free_release (Slot k) (Register r) s h l = omega arith
free_release (Register r) (Slot j) s h l = omega arith
free_release (Register (Gpr a)) (Register (Gpr b)) s h l =
    rw (get_or-set_same s.free 0 (with_bit (get_or s.free 0 0) b) 0 (omega (arith, h.frees)))
    (with-count (get_or s.free 0 0) b a)
free_release (Register (Gpr a)) (Register (Fpr b)) s h l =
    rw (get_or-set_other s.free 1 0 (with_bit (get_or s.free 1 0) b) 0 (λ q. omega (arith, q))) (omega arith)
free_release (Register (Fpr a)) (Register (Gpr b)) s h l =
    rw (get_or-set_other s.free 0 1 (with_bit (get_or s.free 0 0) b) 0 (λ q. omega (arith, q))) (omega arith)
free_release (Register (Fpr a)) (Register (Fpr b)) s h l =
    rw (get_or-set_same s.free 1 (with_bit (get_or s.free 1 0) b) 0 (omega (arith, h.frees)))
    (with-count (get_or s.free 1 0) b a)

free_all : (p : Place) (xs : List Entry) (s : Alloc) → Shaped s → s.spares + slots_in xs ≤ most_slots → free_of p (release_all xs s) ≤ free_of p s + occurs p xs
unfolding release_all occurs slots_in
free_all p [] s h l = omega arith
free_all p (x ∷ xs) s h l =
    omega (
      arith,
      free_all p xs (release x.place s) (shaped_release x.place s h) (omega (arith, spares_release x.place s)),
      free_release p x.place s h (omega arith),
    )

free_with : (p : Place) (l : List Entry) (n : ℕ) (s : Alloc) → free_of p (with_active l n s) ≡ free_of p s
unfolding free_of is_free
free_with (Slot k) l n s = refl
free_with (Register r) l n s = refl

-- expiry moves places from the active to the free
pub expire-times : (p : Place) (at : ℕ) (s : Alloc) → Shaped s → s.spares + slots_in (live s) ≤ most_slots → times p (expire_of at s) ≤ times p s
unfolding expire_of
expire-times p at s h l =
    let g : slots_in (gone_of at (live s)) ≤ slots_in (live s) = slots_gone at (live s) in
    rw (
      take-append_seam (kept_of at (live s)) (drop (length (kept_of at (live s))) s.active),
      free_with p (over (kept_of at (live s)) s.active) (length (kept_of at (live s))) (release_all (gone_of at (live s)) s),
    )
    (omega (arith, occurs-split p at (live s), free_all p (gone_of at (live s)) s h (omega arith)))

-- ---- an entry more
pub live-entered : (e : Entry) (s : Alloc) → s.count < length s.active → live (entered e s) ≡ live s ++ e ∷ []
live-entered e s l = rw (add-one s.count, take-suc-set s.active s.count e l)

pub entered-times : (p : Place) (e : Entry) (s : Alloc) → s.count < length s.active → times p (entered e s) ≡ times p s + same p e.place
unfolding occurs
entered-times p e s l =
    rw (
      live-entered e s l,
      occurs-append p (live s) (e ∷ []),
      free_with p (set s.active s.count e) (s.count + 1) s,
    )
    (omega arith)

-- ---- taking a register that is free
pub take_free : (p : Place) (r : Reg) (s : Alloc) → Shaped s → is_free r s ≡ true → free_of p (take_reg r s) + same p (Register r) ≤ free_of p s
unfolding free_of take_reg is_free
take_free (Slot k) r s h f = omega arith
take_free (Register (Gpr a)) (Gpr b) s h f =
    rw (get_or-set_same s.free 0 (without_bit (get_or s.free 0 0) b) 0 (omega (arith, h.frees)))
    (without-count (get_or s.free 0 0) b a (low (get_or s.free 0 0) b (h.masks 0) f) f)
take_free (Register (Gpr a)) (Fpr b) s h f =
    rw (get_or-set_other s.free 1 0 (without_bit (get_or s.free 1 0) b) 0 (λ q. omega (arith, q))) (omega arith)
take_free (Register (Fpr a)) (Gpr b) s h f =
    rw (get_or-set_other s.free 0 1 (without_bit (get_or s.free 0 0) b) 0 (λ q. omega (arith, q))) (omega arith)
take_free (Register (Fpr a)) (Fpr b) s h f =
    rw (get_or-set_same s.free 1 (without_bit (get_or s.free 1 0) b) 0 (omega (arith, h.frees)))
    (without-count (get_or s.free 1 0) b a (low (get_or s.free 1 0) b (h.masks 1) f) f)

-- ---- taking a slot from the free ones
pub pop_free : (p : Place) (s : Alloc) → Shaped s → 0 < s.spares → s.spares ≤ most_slots
    → free_of p (with_slots s.spare (s.spares - 1) s.made s) + same p (Slot (get_or s.spare (s.spares - 1) 0)) ≡ free_of p s
unfolding free_of stacked is_free
pop_free (Slot k) s sh h l =
    let e : s.spares ≡ suc (s.spares - 1) = omega arith in
    let f : take s.spares s.spare ≡ take (s.spares - 1) s.spare ++ get_or s.spare (s.spares - 1) 0 ∷ [] =
    ap (λ (n : ℕ). take n s.spare) e ∙ take-suc s.spare (s.spares - 1) 0 (omega (arith, sh.stack)) in
    rw (f, stacked-append) (omega arith)
pop_free (Register r) s sh h l = omega arith

pub new_free : (p : Place) (n : ℕ) (s : Alloc) → free_of p (with_slots s.spare s.spares n s) ≡ free_of p s
unfolding free_of is_free
new_free (Slot k) n s = refl
new_free (Register r) n s = refl
