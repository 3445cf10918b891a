-- The registers of a mask, from the lowest on.
use mathlib.Core.Path.{◌≡◌, refl, sym}
use mathlib.Core.Bool.{Bool, true, false}
use mathlib.Core.List.{List, [], ◌∷◌, ◌++◌, append-nil}
use Prim.Native.Nat.{ℕ, ◌+◌, ◌<◌}
use native.Mathlib.Numerals.{add-one}
use lib.ListN.{length, take, set}
use lib.Seq.{take-suc-set}
use Rattle.base.specs.Choice.{pick}
use Rattle.base.specs.Masks.{has_bit}
use Rattle.fit.proofs.Counts.{Counted}
use Rattle.calls.specs.Calls.{masked_from}

-- register r, where the mask has it
abbrev pub masked_at : ℕ → ℕ → List ℕ
masked_at mask r = pick (has_bit mask r) (r ∷ []) []

one_more : (t : Bool) (r : ℕ) (rs : List ℕ) → pick t (r ∷ rs) rs ≡ pick t (r ∷ []) [] ++ rs
one_more true r rs = refl
one_more false r rs = refl

-- what a loop over them counts
pub masked_counted : (mask : ℕ) → Counted (masked_from mask) (masked_from mask 0) [] (λ (r : ℕ). ◌++◌ (masked_at mask r))
unfolding masked_from
masked_counted mask =
    record {
      starts = λ (n : ℕ). refl;
      turns = λ (r k : ℕ). one_more (has_bit mask r) r (masked_from mask (r + 1) k);
      ends = λ (r : ℕ). refl;
    }

-- a register that is in the mask is added, another is not
module _ (mask r : ℕ) where
  pub masked_in : (regs : List ℕ) (k : ℕ) → has_bit mask r ≡ true → k < length regs → take (k + 1) (set regs k r) ≡ take k regs ++ masked_at mask r
  masked_in regs k e h = rw (e, add-one k) (take-suc-set regs k r h)

  pub masked_out : (l : List ℕ) → has_bit mask r ≡ false → l ≡ l ++ masked_at mask r
  masked_out l e = rw e (sym (append-nil l))
