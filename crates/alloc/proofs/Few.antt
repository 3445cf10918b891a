-- Places that are all different are few: at most 256 entries, and at most as many slots as were made.
use mathlib.Core.Path.{◌≡◌, refl}
use mathlib.Core.Bool.{Bool, true, false}
use mathlib.Core.List.{List, [], ◌∷◌}
use Prim.Native.Nat.{ℕ, zero, suc, ◌+◌, ◌≤◌, ◌<◌}
use native.Mathlib.Omega.{arith}
use lib.Dec.{eqb}
use lib.ListN.{length}
use lib.Seq.{length-take-le}
use borrow.Author.Tests.{eqb-false}
use Rattle.place.specs.declared.Reg.TheVariants.{Gpr, Fpr}
use Rattle.place.specs.declared.Place.{Place}
use Rattle.place.specs.declared.Place.TheVariants.{Slot, Register}
use Rattle.alloc.specs.declared.Entry.{Entry}
use Rattle.alloc.specs.declared.Alloc.{Alloc}
use Rattle.alloc.specs.State.{most_active, most_slots, live, free_slots}
use Rattle.alloc.specs.Good.{bit, same, occurs, stacked, free_of, times, Known, Good}
use Rattle.alloc.proofs.Expiry.{is_slot, slots_in}
use Rattle.alloc.proofs.Counts.{same_self}

-- ---- sums
unfoldable sum_to : (ℕ → ℕ) → ℕ → ℕ
sum_to f zero = 0
sum_to f (suc n) = sum_to f n + f n

sum_add : (f g : ℕ → ℕ) (n : ℕ) → sum_to (λ k. f k + g k) n ≡ sum_to f n + sum_to g n
unfolding sum_to
sum_add f g zero = refl
sum_add f g (suc n) = omega (arith, sum_add f g n)

sum_le : (f : ℕ → ℕ) (n : ℕ) → ((k : ℕ) → f k ≤ 1) → sum_to f n ≤ n
unfolding sum_to
sum_le f zero h = omega arith
sum_le f (suc n) h = omega (arith, sum_le f n h, h n)

one_case : (j n : ℕ) (b : Bool) → eqb n j ≡ b → j < suc n → (j < n → 1 ≤ sum_to (λ k. bit (eqb k j)) n) → 1 ≤ sum_to (λ k. bit (eqb k j)) n + bit b
one_case j n true e l ih = omega arith
one_case j n false e l ih = omega (arith, ih (omega (arith, ne j n (eqb-false n j e) l)))
  where
    ne : (j n : ℕ) → (n ≡ j → ⊥) → j < suc n → j < n
    ne j n h l = omega arith

sum_one : (j n : ℕ) → j < n → 1 ≤ sum_to (λ k. bit (eqb k j)) n
unfolding sum_to
sum_one j zero l = omega arith
sum_one j (suc n) l = one_case j n (eqb n j) refl l (λ h. sum_one j n h)

-- ---- entries
abbrev total : (Place → ℕ) → ℕ
total f =
    sum_to (λ k. f (Register (Gpr k))) 64 + (sum_to (λ k. f (Register (Fpr k))) 64 + sum_to (λ k. f (Slot k)) most_slots)

-- a place in range is counted
total_one : (q : Place) → Known most_slots q → 1 ≤ total (λ p. same p q)
total_one (Slot j) h = omega (arith, sum_one j most_slots h)
total_one (Register (Gpr j)) h = omega (arith, sum_one j 64 h)
total_one (Register (Fpr j)) h = omega (arith, sum_one j 64 h)

total_add : (f g : Place → ℕ) → total (λ p. f p + g p) ≡ total f + total g
total_add f g =
    omega (
      arith,
      sum_add (λ k. f (Register (Gpr k))) (λ k. g (Register (Gpr k))) 64,
      sum_add (λ k. f (Register (Fpr k))) (λ k. g (Register (Fpr k))) 64,
      sum_add (λ k. f (Slot k)) (λ k. g (Slot k)) most_slots,
    )

all_counted : (xs : List Entry) → ((p : Place) → 0 < occurs p xs → Known most_slots p) → length xs ≤ total (λ p. occurs p xs)
unfolding occurs
all_counted [] h = omega arith
all_counted (x ∷ xs) h =
    omega (
      arith,
      total_add (λ p. same p x.place) (λ p. occurs p xs),
      total_one x.place (h x.place (omega (arith, same_self x.place))),
      all_counted xs (λ p l. h p (omega arith)),
    )

pub few : (xs : List Entry) → ((p : Place) → 0 < occurs p xs → Known most_slots p) → ((p : Place) → occurs p xs ≤ 1) → length xs ≤ most_active
few xs h o =
    omega (
      arith,
      all_counted xs h,
      sum_le (λ k. occurs (Register (Gpr k)) xs) 64 (λ k. o (Register (Gpr k))),
      sum_le (λ k. occurs (Register (Fpr k)) xs) 64 (λ k. o (Register (Fpr k))),
      sum_le (λ k. occurs (Slot k) xs) most_slots (λ k. o (Slot k)),
    )

-- ---- slots
slot_counted : (made : ℕ) (q : Place) → Known made q → is_slot q ≤ sum_to (λ k. same (Slot k) q) made
slot_counted made (Slot j) h = sum_one j made h
slot_counted made (Register r) h = omega arith

module _ (made : ℕ) where
  entries-counted : (xs : List Entry) → ((p : Place) → 0 < occurs p xs → Known made p) → slots_in xs ≤ sum_to (λ k. occurs (Slot k) xs) made
  unfolding occurs slots_in
  entries-counted [] h = omega arith
  entries-counted (x ∷ xs) h =
      omega (
        arith,
        sum_add (λ k. same (Slot k) x.place) (λ k. occurs (Slot k) xs) made,
        slot_counted made x.place (h x.place (omega (arith, same_self x.place))),
        entries-counted xs (λ p l. h p (omega arith)),
      )

  stack_counted : (js : List ℕ) → ((k : ℕ) → 0 < stacked k js → k < made) → length js ≤ sum_to (λ k. stacked k js) made
  unfolding stacked
  stack_counted [] h = omega arith
  stack_counted (j ∷ js) h =
      omega (
        arith,
        sum_add (λ k. bit (eqb k j)) (λ k. stacked k js) made,
        sum_one j made (h j (omega (arith, same_self (Slot j)))),
        stack_counted js (λ k l. h k (omega arith)),
      )

-- the slots that are free and those that are held were made
pub room : (s : Alloc) → Good s → s.spares + slots_in (live s) ≤ s.made
unfolding free_of
room s g =
    omega (
      arith,
      sum_add (λ k. occurs (Slot k) (live s)) (λ k. stacked k (free_slots s)) s.made,
      sum_le (λ k. times (Slot k) s) s.made (λ k. g.once (Slot k)),
      entries-counted s.made (live s) (λ p l. g.known p (omega arith)),
      stack_counted s.made (free_slots s) (λ k l. g.known (Slot k) (omega arith)),
      length-take-le s.spares s.spare (omega (arith, g.spared, g.shape.stack)),
    )
