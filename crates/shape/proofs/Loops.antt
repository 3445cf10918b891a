-- Loops over numbers of the pool and over blocks: what is left decides, and the sum of a loop over blocks.
use mathlib.Core.Path.{◌≡◌, refl, ◌∙◌}
use mathlib.Core.Bool.{Bool, true, false, not}
use mathlib.Core.List.{List}
use Prim.Native.Nat.{ℕ, zero, suc, ◌+◌, ◌-◌, ◌*◌, ◌≤◌, ◌<◌}
use native.Mathlib.Nat.{not-suc-le-zero}
use native.Mathlib.Omega.{arith}
use Rattle.base.specs.Choice.{pick}
use Rattle.input.specs.Layout.{pool_at, list_at}
use Rattle.input.specs.Records.{is_live, instr_count}
use Rattle.input.specs.Forms.{each}
use Rattle.shape.specs.Counts.{row_count}
use Rattle.shape.specs.Shape.{value_in, values_in, none_live}

-- A number of a list of the pool, by its place in the list.
abbrev pub number_ok : List ℕ → ℕ → ℕ → Bool
number_ok ws at j = value_in ws (pool_at ws (at + j))

-- A list of the pool is tested number by number.
list_each : (ws : List ℕ) (at j n : ℕ) → values_in ws (list_at ws (at + j) n) ≡ each (number_ok ws at) j n
unfolding list_at each
list_each ws at j zero = refl
list_each ws at j (suc n) =
    let e : at + j + 1 ≡ at + (j + 1) = omega arith in
    rw (e, list_each ws at (j + 1) n)

pub list_tests : (ws : List ℕ) (at n : ℕ) → values_in ws (list_at ws at n) ≡ each (number_ok ws at) 0 n
list_tests ws at n =
    let z : at + 0 ≡ at = omega arith in
    rw z at (list_each ws at 0 n)

-- No live block: each is a tombstone.
abbrev pub dead : List ℕ → ℕ → Bool
dead ws b = not (is_live ws b)

pub none_each : (ws : List ℕ) (b n : ℕ) → none_live ws b n ≡ each (dead ws) b n
unfolding none_live each
none_each ws b zero = refl
none_each ws b (suc n) = rw (none_each ws (b + 1) n) (turned (is_live ws b) _) where
  turned : (t r : Bool) → pick t false r ≡ pick (not t) r false
  turned true r = refl
  turned false r = refl

-- Rows so far, and those from b on, are all rows; each block has at most 4,294,967,297.
pub record Rows (ws : List ℕ) (b end rows all : ℕ) : Type 0 where
  pub is : rows + row_count ws b (end - b) ≡ all
  pub few : rows ≤ 4294967297 * b

pub rows_start : (ws : List ℕ) {end n : ℕ} → end ≡ n → Rows ws 0 end 0 (row_count ws 0 n)
rows_start ws {end} {n} e =
    let d : end - 0 ≡ n = omega arith in
    let q : row_count ws 0 (end - 0) ≡ row_count ws 0 n = rw d in
    record { is = omega arith; few = omega arith }

rows_more : (ws : List ℕ) (b n : ℕ) → 0 < n → row_count ws b n ≡ pick (is_live ws b) (instr_count ws b + 2) 0 + row_count ws (b + 1) (n - 1)
unfolding row_count
rows_more ws b zero h = absurd (not-suc-le-zero h)
rows_more ws b (suc n) h =
    let e : suc n - 1 ≡ n = omega arith in
    rw e

pub rows-turn : {ws : List ℕ} {b end rows all m : ℕ} → Rows ws b end rows all → b < end → m ≡ pick (is_live ws b) (instr_count ws b + 2) 0 → m ≤ 4294967297
    → Rows ws (b + 1) end (rows + m) all
rows-turn {ws} {b} {end} {rows} {all} {m} w h e l =
    let p : 0 < end - b = omega arith in
    let d : end - (b + 1) ≡ end - b - 1 = omega arith in
    let q : row_count ws b (end - b) ≡ m + row_count ws (b + 1) (end - (b + 1)) = rows_more ws b (end - b) p ∙ rw (d, e) in
    record { is = omega (arith, w.is); few = omega (arith, w.few) }

pub rows-done : {ws : List ℕ} {b end rows all : ℕ} → Rows ws b end rows all → end ≤ b → rows ≡ all
unfolding row_count
rows-done {ws} {b} {end} w h =
    let e : end - b ≡ 0 = omega arith in
    let z : row_count ws b (end - b) ≡ 0 = rw e in
    omega (arith, w.is)
