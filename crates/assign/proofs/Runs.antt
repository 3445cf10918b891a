-- One turn of each loop over values, and its end, over plain variables; what a row of parameters or an instruction is.
use Prim.Native.Nat.{ℕ, suc, ◌+◌, ◌-◌, ◌<◌, ◌≤◌}
use mathlib.Core.List.{List, [], ◌∷◌, ◌++◌}
use mathlib.Core.Path.{◌≡◌, refl, ap, ap₂, ◌∙◌}
use native.Mathlib.Omega.{arith}
use borrow.Author.Tests.{eq-eqb, ne_eqb}
use Rattle.base.specs.Choice.{pick}
use Rattle.input.specs.Layout.{pool_at, list_at}
use Rattle.input.specs.Records.{params_of}
use Rattle.rows.specs.Rows.{params, instr, maybe, defined_by}
use Rattle.assign.specs.Steps.{Step, pins, places, notes, is_call, row_steps}
use Rattle.assign.specs.Walk.{Walk, place_step, pin_step, note_step, step, run}

pub run-append : (ws pool : List ℕ) (xs ys : List Step) (w : Walk) → run ws pool (xs ++ ys) w ≡ run ws pool ys (run ws pool xs w)
unfolding run
run-append ws pool [] ys w = refl
run-append ws pool (x ∷ xs) ys w = run-append ws pool xs ys (step ws pool x w)

-- ---- counting up: what is left from j on of n things, the first of them number i
pub left_all : {A : Type 0} (f : ℕ → ℕ → A) (i n : ℕ) → f (i + 0) (n - 0) ≡ f i n
left_all f i n =
    let e : i + 0 ≡ i = omega arith in
    let e' : n - 0 ≡ n = omega arith in
    ap₂ f e e'

pub left-turn : {A : Type 0} (f : ℕ → ℕ → A) (i j n : ℕ) → j < n → f (i + j) (n - j) ≡ f (i + j) (suc (n - (j + 1)))
left-turn f i j n h =
    let e : n - j ≡ suc (n - (j + 1)) = omega arith in
    ap (f (i + j)) e

pub left-next : {A : Type 0} (f : ℕ → ℕ → A) (i j n : ℕ) → f (i + j + 1) (n - (j + 1)) ≡ f (i + (j + 1)) (n - (j + 1))
left-next f i j n =
    let e : i + j + 1 ≡ i + (j + 1) = omega arith in
    ap (λ (k : ℕ). f k (n - (j + 1))) e

pub left_none : {A : Type 0} (f : ℕ → ℕ → A) (i j n : ℕ) → n ≤ j → f (i + j) (n - j) ≡ f (i + j) 0
left_none f i j n h =
    let e : n - j ≡ 0 = omega arith in
    ap (f (i + j)) e

-- ---- lists of the pool
module _ (ws : List ℕ) (i j n : ℕ) where
  pub list_turn : j < n → list_at ws (i + j) (n - j) ≡ pool_at ws (i + j) ∷ list_at ws (i + (j + 1)) (n - (j + 1))
  unfolding list_at
  list_turn h = left-turn (list_at ws) i j n h ∙ ap (λ (l : List ℕ). pool_at ws (i + j) ∷ l) (left-next (list_at ws) i j n)

  pub list_end : n ≤ j → list_at ws (i + j) (n - j) ≡ []
  unfolding list_at
  list_end h = left_none (list_at ws) i j n h

module _ (ws pool : List ℕ) (r i j n : ℕ) (w : Walk) where
  pub places-end : n ≤ j → run ws pool (places r (list_at ws (i + j) (n - j))) w ≡ w
  unfolding run places
  places-end h = rw (list_end ws i j n h)

  pub pins-end : n ≤ j → run ws pool (pins r j (list_at ws (i + j) (n - j))) w ≡ w
  unfolding run pins
  pins-end h = rw (list_end ws i j n h)

  pub places-turn : j < n
      → run ws pool (places r (list_at ws (i + j) (n - j))) w
      ≡ run ws pool (places r (list_at ws (i + (j + 1)) (n - (j + 1)))) (place_step ws pool r (pool_at ws (i + j)) w)
  unfolding run places step
  places-turn h = ap (λ (l : List ℕ). run ws pool (places r l) w) (list_turn ws i j n h)

  pub pins-turn : j < n
      → run ws pool (pins r j (list_at ws (i + j) (n - j))) w
      ≡ run ws pool (pins r (j + 1) (list_at ws (i + (j + 1)) (n - (j + 1)))) (pin_step ws pool r j (pool_at ws (i + j)) w)
  unfolding run pins step
  pins-turn h = ap (λ (l : List ℕ). run ws pool (pins r j l) w) (list_turn ws i j n h)

-- ---- rows
module _ (ws pool : List ℕ) (r : ℕ) (w : Walk) where
  pub params_zero : (b : ℕ) → b ≡ 0 → run ws pool (row_steps ws r (params b)) w ≡ run ws pool (pins r 0 (params_of ws b)) w
  unfolding row_steps
  params_zero b h = rw (eq-eqb b 0 h)

  pub params_other : (b : ℕ) → (b ≡ 0 → ⊥) → run ws pool (row_steps ws r (params b)) w ≡ run ws pool (places r (params_of ws b)) w
  unfolding row_steps
  params_other b h = rw (ne_eqb b 0 h)

  pub maybe_none : (d : ℕ) → d ≡ 0 → run ws pool (places r (maybe d)) w ≡ w
  unfolding run places
  maybe_none d h = rw h

  pub maybe-some : (d : ℕ) → 0 < d → run ws pool (places r (maybe d)) w ≡ place_step ws pool r (d - 1) w
  unfolding run places step
  maybe-some d h = let e : d ≡ suc (d - 1) = omega arith in ap (λ (n : ℕ). run ws pool (places r (maybe n)) w) e

  pub note_none : (d : ℕ) → d ≡ 0 → run ws pool (notes r (maybe d)) w ≡ w
  unfolding run notes
  note_none d h = rw h

  pub note-some : (d : ℕ) → 0 < d → run ws pool (notes r (maybe d)) w ≡ note_step r (d - 1) w
  unfolding run notes step
  note-some d h = let e : d ≡ suc (d - 1) = omega arith in ap (λ (n : ℕ). run ws pool (notes r (maybe n)) w) e

  pub instr_split : (i : ℕ)
      → run ws pool (row_steps ws r (instr i)) w
      ≡ run ws pool (places r (defined_by ws i)) (run ws pool (pick (is_call ws i) (notes r (defined_by ws i)) []) w)
  unfolding row_steps
  instr_split i = run-append ws pool (pick (is_call ws i) (notes r (defined_by ws i)) []) (places r (defined_by ws i)) w
