-- Operands in the finished function: each is in its own register, or an op stands that loads its slot to SCRATCH or TMP.
use mathlib.Core.Path.{◌≡◌, refl, ◌∙◌}
use mathlib.Core.Logic.{◌≢◌, ◌⊎◌, inl, inr, ⊎_elim}
use mathlib.Core.Bool.{Bool, true, false}
use Prim.Native.Nat.{ℕ, ◌+◌, ◌-◌, ◌≤◌, ◌<◌}
use native.Mathlib.Nat.{add-zero}
use native.Mathlib.Omega.{arith}
use borrow.Author.Tests.{eq-eqb, ne_eqb, lt-ltb, le-ltb}
use lib.Dec.{eqb}
use lib.ListN.{length}
use Rattle.base.specs.Emission.{Out, emit}
use Rattle.base.proofs.Numbers.{lt?, pick-both}
use Rattle.place.specs.Registers.{scratch_of, tmp_of}
use Rattle.place.specs.Places.{slots_from}
use Rattle.op.specs.Words.{word}
use Rattle.op.specs.Ops as op
use Rattle.frame.specs.Frames.{op_at}
use Rattle.lower.specs.Operands.{loads_scratch, spare, operand_reg, fetched}
use Rattle.layout.specs.Layout.{goes_on, Fetched, there, loaded}
use Rattle.layout.proofs.Straight.{parts_bytes, goes_op}
use Rattle.layout.proofs.Adding.{Adds, adds_emit, adds_few, emit_long, between_at}
use Rattle.layout.proofs.Finish.{Finished, goes_there}

-- ---- where an operand is
module _ (n p : ℕ) (q : Out) where
  reg_there : p < slots_from → operand_reg n p q.last ≡ p
  unfolding operand_reg
  reg_there h = rw (lt-ltb p slots_from h)

  fetch_there : p < slots_from → fetched n p q ≡ q
  unfolding fetched
  fetch_there h = rw (lt-ltb p slots_from h)

  reg-slot : slots_from ≤ p → operand_reg n p q.last ≡ spare n q.last
  unfolding operand_reg
  reg-slot h = rw (le-ltb p slots_from h)

  fetch-slot : slots_from ≤ p → fetched n p q ≡ emit (word (op.load_slot (spare n q.last) (p - slots_from))) q
  unfolding fetched
  fetch-slot h = rw (le-ltb p slots_from h)

-- ---- SCRATCH and TMP
spare_is : (n last : ℕ) → (spare n last ≡ scratch_of n) ⊎ (spare n last ≡ tmp_of n)
unfolding spare
spare_is n last = pick-both (λ (x : ℕ). (x ≡ scratch_of n) ⊎ (x ≡ tmp_of n)) (loads_scratch n last) _ _ (inr refl) (inl refl)

-- the register of an operand is a byte
pub operand_small : (n p last : ℕ) → n ≤ 256 → operand_reg n p last < 256
unfolding operand_reg spare
operand_small n p last h =
    ⊎_elim (λ (g : p < slots_from). rw (lt-ltb p slots_from g) g)
    (λ (g : slots_from ≤ p).
    rw (le-ltb p slots_from g) (pick-both (λ (x : ℕ). x < 256) (loads_scratch n last) _ _ (omega arith) (omega arith)))
    (lt? p slots_from)

module _ (n : ℕ) (few : n ≤ 256) (two : 2 ≤ n) where
  -- behind a load the other one of the two is taken
  spare_other : (last k : ℕ) → spare n last ≢ spare n (word (op.load_slot (spare n last) k))
  unfolding spare loads_scratch
  spare_other last k = go (loads_scratch n last) refl
    where
      loads : (r : ℕ) → r < 256 → loads_scratch n (word (op.load_slot r k)) ≡ eqb r (scratch_of n)
      loads r h = rw (parts_bytes (op.load_slot r k) (omega arith) h (omega arith) (omega arith))

      go : (t : Bool) → loads_scratch n last ≡ t → spare n last ≢ spare n (word (op.load_slot (spare n last) k))
      go true e same =
          let f : eqb (tmp_of n) (scratch_of n) ≡ false = ne_eqb (tmp_of n) (scratch_of n) (λ (x : tmp_of n ≡ scratch_of n). omega arith) in
          let z : tmp_of n ≡ scratch_of n = rw (e, loads (tmp_of n) (omega arith), f) at same in
          omega arith
      go false e same =
          let f : eqb (scratch_of n) (scratch_of n) ≡ true = eq-eqb (scratch_of n) (scratch_of n) refl in
          let z : scratch_of n ≡ tmp_of n = rw (e, loads (scratch_of n) (omega arith), f) at same in
          omega arith

  -- so two slots are in two registers
  pub slots_apart : (p p' : ℕ) (q : Out) → slots_from ≤ p → slots_from ≤ p' → operand_reg n p q.last ≢ operand_reg n p' (fetched n p q).last
  unfolding emit
  slots_apart p p' q h g =
      rw (reg-slot n p q h, reg-slot n p' (fetched n p q) g, fetch-slot n p q h) (spare_other q.last (p - slots_from))

-- ---- in the finished function
pub fetch_at : {from : ℕ} {B F : Out} → Finished from B F → {P : ℕ → Type 0} (n p : ℕ) (q : Out) → from ≤ length q.ops → Adds P (fetched n p q) B
    → Fetched n F p (operand_reg n p q.last) (length q.ops) (length (fetched n p q).ops)
unfolding adds_emit
fetch_at {B = B} fin {P} n p q h y =
    ⊎_elim
    (λ (g : p < slots_from). rw (fetch_there n p q g) (there g (reg_there n p q g)))
    (λ (g : slots_from ≤ p).
    let r : ℕ = spare n q.last in
    let w : ℕ = word (op.load_slot r (p - slots_from)) in
    let go : goes_on w ≡ true = goes_op 25 r 0 0 (p - slots_from) (omega arith) refl in
    let z : Adds P (emit w q) B = rw (fetch-slot n p q g) at y in
    let a : length q.ops + 0 ≡ length q.ops = add-zero (length q.ops) in
    let is : op_at B (length q.ops) ≡ w = rw a at (between_at (adds_emit q w) z 0 (omega arith)) in
    rw (fetch-slot n p q g, reg-slot n p q g, emit_long w q)
    (loaded g (spare_is n q.last) (goes_there fin (length q.ops) h (omega (arith, emit_long w q, adds_few z)) (rw is go) ∙ is)))
    (lt? p slots_from)
