-- A check of a run of instructions' rows, as one of each number in turn.
use Prim.Native.Nat.{ℕ, zero, suc, ◌+◌}
use mathlib.Core.Bool.{Bool}
use mathlib.Core.Path.{◌≡◌, refl, ap, ◌∙◌}
use native.Mathlib.Omega.{arith}
use Rattle.input.specs.Forms.{both, each}
use Rattle.rows.specs.Rows.{Row, instr, instr_rows, every}

-- the j-th of the instructions from the i-th on, of which the first has row r
abbrev pub instr_at : (ℕ → Row → Bool) → ℕ → ℕ → ℕ → Bool
instr_at ok r i j = ok (r + j) (instr (i + j))

each_from : (ok : ℕ → Row → Bool) (r i j n : ℕ) → each (instr_at ok r i) j n ≡ every ok (r + j) (instr_rows (i + j) n)
unfolding each every instr_rows
each_from ok r i j zero = refl
each_from ok r i j (suc n) =
    let a : r + (j + 1) ≡ r + j + 1 = omega arith in
    let b : i + (j + 1) ≡ i + j + 1 = omega arith in
    ap (both (instr_at ok r i j)) (each_from ok r i (j + 1) n ∙ rw (a, b))

pub each_instr : (ok : ℕ → Row → Bool) (r i n : ℕ) → each (instr_at ok r i) 0 n ≡ every ok r (instr_rows i n)
each_instr ok r i n =
    let a : r + 0 ≡ r = omega arith in
    let b : i + 0 ≡ i = omega arith in
    each_from ok r i 0 n ∙ rw (a, b)
