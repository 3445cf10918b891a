-- One turn of each loop over rows and blocks, and its end, over plain variables.
use Prim.Native.Nat.{ℕ, zero, suc, ◌+◌, ◌-◌, ◌<◌, ◌≤◌}
use mathlib.Core.List.{List, [], ◌∷◌, ◌++◌, append_assoc}
use mathlib.Core.Logic.{◌≢◌}
use mathlib.Core.Path.{◌≡◌, refl, sym, ap, ◌∙◌}
use native.Mathlib.Omega.{arith}
use native.Mathlib.Nat.{add-zero}
use lib.ListN.{length, length-append}
use borrow.Author.Tests.{eq-eqb, ne_eqb}
use Rattle.input.specs.Records.{tombstone, first_instr, instr_count}
use Rattle.rows.specs.Rows.{Row, params, instr, term, instr_rows, block_rows, rows_from, over_rows}
use Rattle.assign.specs.Steps.{Step, row_steps}
use Rattle.assign.specs.Walk.{Walk, run}
use Rattle.assign.specs.Fits.{run_rows}
use Rattle.assign.proofs.Runs.{run-append, left_all, left-turn, left-next, left_none}

pub over-append : {A : Type 0} (g : ℕ → Row → List A) (r : ℕ) (xs ys : List Row)
    → over_rows g r (xs ++ ys) ≡ over_rows g r xs ++ over_rows g (r + length xs) ys
unfolding over_rows
over-append g r [] ys = ap (λ (k : ℕ). over_rows g k ys) (sym (add-zero r))
over-append g r (x ∷ xs) ys =
    let e : r + 1 + length xs ≡ r + suc (length xs) = omega arith in
    rw (over-append g (r + 1) xs ys, append_assoc, e)

-- ---- several rows
pub rows_append : (ws pool : List ℕ) (r : ℕ) (xs ys : List Row) (w : Walk)
    → run_rows ws pool r (xs ++ ys) w ≡ run_rows ws pool (r + length xs) ys (run_rows ws pool r xs w)
rows_append ws pool r xs ys w =
    ap (λ (l : List Step). run ws pool l w) (over-append (row_steps ws) r xs ys)
    ∙ run-append ws pool (over_rows (row_steps ws) r xs) (over_rows (row_steps ws) (r + length xs) ys) w

pub rows_cons : (ws pool : List ℕ) (r : ℕ) (x : Row) (xs : List Row) (w : Walk)
    → run_rows ws pool r (x ∷ xs) w ≡ run_rows ws pool (r + 1) xs (run ws pool (row_steps ws r x) w)
unfolding over_rows
rows_cons ws pool r x xs w = run-append ws pool (row_steps ws r x) (over_rows (row_steps ws) (r + 1) xs) w

pub rows_nil : (ws pool : List ℕ) (r : ℕ) (w : Walk) → run_rows ws pool r [] w ≡ w
unfolding over_rows run
rows_nil ws pool r w = refl

pub length_instrs : (i n : ℕ) → length (instr_rows i n) ≡ n
unfolding instr_rows
length_instrs i zero = refl
length_instrs i (suc n) = ap suc (length_instrs (i + 1) n)

pub instrs_all : (ws pool : List ℕ) (r i n : ℕ) (w : Walk)
    → run_rows ws pool (r + 0) (instr_rows (i + 0) (n - 0)) w ≡ run_rows ws pool r (instr_rows i n) w
instrs_all ws pool r i n w =
    let e : r + 0 ≡ r = omega arith in
    ap (λ (k : ℕ). run_rows ws pool k (instr_rows (i + 0) (n - 0)) w) e
    ∙ left_all (λ (k m : ℕ). run_rows ws pool r (instr_rows k m) w) i n

module _ (ws pool : List ℕ) (r i j n : ℕ) (w : Walk) where
  pub instrs_turn : j < n
      → run_rows ws pool (r + j) (instr_rows (i + j) (n - j)) w
      ≡ run_rows ws pool (r + (j + 1)) (instr_rows (i + (j + 1)) (n - (j + 1))) (run ws pool (row_steps ws (r + j) (instr (i + j))) w)
  unfolding instr_rows
  instrs_turn h =
      let e : r + j + 1 ≡ r + (j + 1) = omega arith in
      let x : List Row = instr_rows (i + (j + 1)) (n - (j + 1)) in
      ap (λ (l : List Row). run_rows ws pool (r + j) l w)
      (left-turn instr_rows i j n h ∙ ap (λ (l : List Row). instr (i + j) ∷ l) (left-next instr_rows i j n))
      ∙ rows_cons ws pool (r + j) (instr (i + j)) x w
      ∙ ap (λ (k : ℕ). run_rows ws pool k x (run ws pool (row_steps ws (r + j) (instr (i + j))) w)) e

  pub instrs_end : n ≤ j → run_rows ws pool (r + j) (instr_rows (i + j) (n - j)) w ≡ w
  unfolding instr_rows
  instrs_end h =
      ap (λ (l : List Row). run_rows ws pool (r + j) l w) (left_none instr_rows i j n h) ∙ rows_nil ws pool (r + j) w

-- ---- all blocks: n of them, from b on, at row r
pub from_all : (ws : List ℕ) (n : ℕ) → rows_from ws 0 (n - 0) ≡ rows_from ws 0 n
from_all ws n = let e : n - 0 ≡ n = omega arith in ap (rows_from ws 0) e

module _ (ws : List ℕ) (b n : ℕ) (h : b < n) where
  pub from-turn : rows_from ws b (n - b) ≡ block_rows ws b ++ rows_from ws (b + 1) (n - (b + 1))
  unfolding rows_from
  from-turn = let e : n - b ≡ suc (n - (b + 1)) = omega arith in ap (rows_from ws b) e

  pub length-turn : length (rows_from ws b (n - b)) ≡ length (block_rows ws b) + length (rows_from ws (b + 1) (n - (b + 1)))
  length-turn = ap length from-turn ∙ length-append (block_rows ws b) (rows_from ws (b + 1) (n - (b + 1)))

  pub blocks-turn : (pool : List ℕ) (r : ℕ) (w : Walk)
      → run_rows ws pool r (rows_from ws b (n - b)) w
      ≡ run_rows ws pool (r + length (block_rows ws b)) (rows_from ws (b + 1) (n - (b + 1))) (run_rows ws pool r (block_rows ws b) w)
  blocks-turn pool r w =
      ap (λ (l : List Row). run_rows ws pool r l w) from-turn
      ∙ rows_append ws pool r (block_rows ws b) (rows_from ws (b + 1) (n - (b + 1))) w

pub blocks_end : (ws pool : List ℕ) (r b n : ℕ) (w : Walk) → n ≤ b → run_rows ws pool r (rows_from ws b (n - b)) w ≡ w
unfolding rows_from
blocks_end ws pool r b n w h =
    let e : n - b ≡ 0 = omega arith in
    ap (λ (k : ℕ). run_rows ws pool r (rows_from ws b k) w) e ∙ rows_nil ws pool r w

-- ---- a block
module _ (ws : List ℕ) (b : ℕ) where
  pub dead-rows : tombstone ws b ≢ 0 → block_rows ws b ≡ []
  unfolding block_rows
  dead-rows h = rw (ne_eqb (tombstone ws b) 0 h)

  pub live-rows : tombstone ws b ≡ 0
      → block_rows ws b ≡ params b ∷ (instr_rows (first_instr ws b) (instr_count ws b) ++ (term b ∷ []))
  unfolding block_rows
  live-rows h = rw (eq-eqb (tombstone ws b) 0 h)

  pub live-length : tombstone ws b ≡ 0 → length (block_rows ws b) ≡ instr_count ws b + 2
  live-length h =
      let e : length (instr_rows (first_instr ws b) (instr_count ws b) ++ (term b ∷ [])) ≡ instr_count ws b + 1 =
      simp (length-append, length_instrs) (omega arith) in
      ap length (live-rows h) ∙ omega (arith, e)

  pub dead-length : tombstone ws b ≢ 0 → length (block_rows ws b) ≡ 0
  dead-length h = ap length (dead-rows h)

  -- parameters, instructions, terminator
  pub live-run : (pool : List ℕ) (r : ℕ) (w : Walk) → tombstone ws b ≡ 0
      → run_rows ws pool r (block_rows ws b) w
      ≡ run ws pool (row_steps ws (r + 1 + instr_count ws b) (term b))
      (run_rows ws pool (r + 1) (instr_rows (first_instr ws b) (instr_count ws b)) (run ws pool (row_steps ws r (params b)) w))
  live-run pool r w h =
      let i : List Row = instr_rows (first_instr ws b) (instr_count ws b) in
      let u : Walk = run ws pool (row_steps ws r (params b)) w in
      ap (λ (l : List Row). run_rows ws pool r l w) (live-rows h)
      ∙ rows_cons ws pool r (params b) (i ++ (term b ∷ [])) w
      ∙ rows_append ws pool (r + 1) i (term b ∷ []) u
      ∙ ap (λ (k : ℕ). run_rows ws pool (r + 1 + k) (term b ∷ []) (run_rows ws pool (r + 1) i u))
      (length_instrs (first_instr ws b) (instr_count ws b))
      ∙ rows_cons ws pool (r + 1 + instr_count ws b) (term b) [] (run_rows ws pool (r + 1) i u)
      ∙ rows_nil ws pool (r + 1 + instr_count ws b + 1) _

  pub dead-run : (pool : List ℕ) (r : ℕ) (w : Walk) → tombstone ws b ≢ 0 → run_rows ws pool r (block_rows ws b) w ≡ w
  dead-run pool r w h = ap (λ (l : List Row). run_rows ws pool r l w) (dead-rows h) ∙ rows_nil ws pool r w
