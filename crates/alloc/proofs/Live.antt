-- Laws of the registers that active entries hold past a row.
use mathlib.Core.Path.{◌≡◌, refl, ◌∙◌}
use mathlib.Core.Logic.{⊎_elim, ◌≢◌}
use mathlib.Core.Bool.{Bool, true, false}
use mathlib.Core.List.{List, [], ◌∷◌}
use Prim.Native.Nat.{ℕ, ◌≤◌, ◌<◌}
use native.Mathlib.Omega.{arith}
use lib.Dec.{leb, ltb, eqb}
use borrow.Author.Tests.{leb-false, lt-ltb, eqb-true}
use Rattle.base.specs.Choice.{pick}
use Rattle.base.specs.Masks.{has_bit, with_bit}
use Rattle.base.proofs.Masks.{has-with-same, has-with_other, with-has}
use Rattle.base.proofs.Numbers.{lt?, same?, pick-both}
use Rattle.place.specs.declared.Reg.{Reg}
use Rattle.place.specs.declared.Reg.TheVariants.{Gpr, Fpr}
use Rattle.place.specs.declared.Place.{Place}
use Rattle.place.specs.declared.Place.TheVariants.{Slot, Register}
use Rattle.place.specs.Places.{class_of, index_of}
use Rattle.alloc.specs.declared.Entry.{Entry}
use Rattle.alloc.specs.Allocation.{kept_of, notes, live_after}
use Rattle.alloc.specs.Good.{bit, same, occurs}

-- ---- an active entry in a register that ends after the row has its bit
with_keeps : (m k j : ℕ) → has_bit m j ≡ true → has_bit (with_bit m k) j ≡ true
with_keeps m k j h =
    ⊎_elim
    (λ (e : j ≡ k). rw (with-has m k (rw e at h)) h)
    (λ (e : j ≢ k). has-with_other m k j e ∙ h)
    (same? j k)

notes-keep : (class : ℕ) (p : Place) (m j : ℕ) → has_bit m j ≡ true → has_bit (notes class p m) j ≡ true
notes-keep class (Slot k) m j h = h
notes-keep class (Register r) m j h =
    pick-both (λ (x : ℕ). has_bit x j ≡ true) (eqb (class_of r) class) _ _ (with_keeps m (index_of r) j h) h

live_keeps : (class row : ℕ) (es : List Entry) (m j : ℕ) → has_bit m j ≡ true → has_bit (live_after class row es m) j ≡ true
unfolding live_after
live_keeps class row [] m j h = h
live_keeps class row (e ∷ es) m j h =
    live_keeps class row es _ j
    (pick-both (λ (x : ℕ). has_bit x j ≡ true) (ltb row e.end) _ _ (notes-keep class e.place m j h) h)

same-reg_case : (a b m : ℕ) (t : Bool) → eqb a b ≡ t → 0 < bit t → a < 64 → has_bit (with_bit m b) a ≡ true
same-reg_case a b m true e h l = let q : a ≡ b = eqb-true a b e in rw (← q) (has-with-same m a l)
same-reg_case a b m false e h l = absurd (omega arith)

-- the place itself
notes-same : (r : Reg) (p : Place) (m : ℕ) → 0 < same (Register r) p → index_of r < 64 → has_bit (notes (class_of r) p m) (index_of r) ≡ true
notes-same (Gpr a) (Slot k) m h l = absurd (omega arith)
notes-same (Gpr a) (Register (Gpr b)) m h l = same-reg_case a b m (eqb a b) refl h l
notes-same (Gpr a) (Register (Fpr b)) m h l = absurd (omega arith)
notes-same (Fpr a) (Slot k) m h l = absurd (omega arith)
notes-same (Fpr a) (Register (Gpr b)) m h l = absurd (omega arith)
notes-same (Fpr a) (Register (Fpr b)) m h l = same-reg_case a b m (eqb a b) refl h l

module _ (r : Reg) (row : ℕ) (low : index_of r < 64) where
  -- one entry, and the rest
  covers_one : (e : Entry) (es : List Entry) (m : ℕ) (t : Bool) → leb e.end row ≡ t
      → ((m : ℕ) → 0 < occurs (Register r) (kept_of row es) → has_bit (live_after (class_of r) row es m) (index_of r) ≡ true)
      → 0 < occurs (Register r) (pick t (kept_of row es) (e ∷ kept_of row es))
      → has_bit (live_after (class_of r) row es (pick (ltb row e.end) (notes (class_of r) e.place m) m)) (index_of r) ≡ true
  unfolding occurs
  covers_one e es m true q ih h = ih _ h
  covers_one e es m false q ih h =
      let l : ltb row e.end ≡ true = lt-ltb row e.end (leb-false e.end row q) in
      ⊎_elim
      (λ (z : 0 < same (Register r) e.place).
      rw l (live_keeps (class_of r) row es _ (index_of r) (notes-same r e.place m z low)))
      (λ (z : same (Register r) e.place ≤ 0). ih _ (omega arith))
      (lt? 0 (same (Register r) e.place))

  pub live_covers : (es : List Entry) (m : ℕ) → 0 < occurs (Register r) (kept_of row es) → has_bit (live_after (class_of r) row es m) (index_of r) ≡ true
  unfolding live_after kept_of occurs
  live_covers [] m h = absurd (omega arith)
  live_covers (e ∷ es) m h = covers_one e es m (leb e.end row) refl (λ k q. live_covers es k q) h
