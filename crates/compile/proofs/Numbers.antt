-- A number that `compile` refuses with is at most 9.
use mathlib.Core.List.{List}
use Prim.Native.Nat.{ℕ, ◌≤◌}
use native.Mathlib.Omega.{arith}
use lib.Dec.{eqb}
use Rattle.base.proofs.Numbers.{pick-both}
use Rattle.input.specs.Forms.{words_ok}
use Rattle.judge.specs.Judged.{unfit}
use Rattle.judge.proofs.Numbers.{unfit_small}
use Rattle.assign.specs.Walk.{slots_ok}
use Rattle.lists.specs.declared.Used.{Used}
use Rattle.first_checks.specs.Buffers.{Buffers}
use Rattle.first_checks.specs.Checks.{used_ok}
use Rattle.compile.specs.Compile.{room_ok, refusal}

pub refusal_small : (n : ℕ) (ws : List ℕ) (b : Buffers) (u : Used) → refusal n ws b u ≤ 9
unfolding refusal
refusal_small n ws b u =
    let small = pick-both (λ (k : ℕ). k ≤ 9) in
    small (words_ok ws) _ 1
    (small (used_ok b u) _ 2
    (small (eqb (unfit n ws b.functions) 0) _ _
    (small (slots_ok n ws) _ 8 (small (room_ok n ws b u) 0 9 (omega arith) (omega arith)) (omega arith)) (omega (arith, unfit_small n ws b.functions)))
    (omega arith))
    (omega arith)
