-- The lookups of a run of instructions, turn by turn.
use mathlib.Core.Path.{◌≡◌}
use Prim.Native.Nat.{ℕ, suc, ◌+◌, ◌-◌, ◌≤◌, ◌<◌}
use mathlib.Core.List.{List}
use native.Mathlib.Omega.{arith}
use lib.Dec.{eqb}
use Rattle.base.specs.Choice.{pick}
use Rattle.base.proofs.Numbers.{pick-both}
use Rattle.input.specs.Records.{instr_kind, lookup}
use Rattle.instrs.specs.Instrs.{lookups_in}

pub one_at_most : (ws : List ℕ) (i : ℕ) {x : ℕ} → x ≡ pick (eqb (instr_kind ws i) lookup) 1 0 → x ≤ 1
one_at_most ws i e = rw e (pick-both (λ (x : ℕ). x ≤ 1) (eqb (instr_kind ws i) lookup) 1 0 (omega arith) (omega arith))

-- so many before instruction j, and those of the rest
module _ (ws : List ℕ) (j end n : ℕ) {whole : ℕ} (f : n + lookups_in ws j (end - j) ≡ whole) where
  pub lookups_on : {x : ℕ} → x ≡ pick (eqb (instr_kind ws j) lookup) 1 0 → j < end → n + x + lookups_in ws (j + 1) (end - (j + 1)) ≡ whole
  unfolding lookups_in
  lookups_on e h =
      let s : end - j ≡ suc (end - (j + 1)) = omega arith in
      omega (arith, e, rw s at f)

  pub lookups_none : end ≤ j → n ≡ whole
  unfolding lookups_in
  lookups_none h =
      let s : end - j ≡ 0 = omega arith in
      omega (arith, rw s at f)
