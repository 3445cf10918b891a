-- One turn of each loop over the arguments of an edge and the edges of a block, and its end, over plain variables.
use Prim.Native.Nat.{ℕ, ◌+◌, ◌-◌, ◌<◌, ◌≤◌}
use mathlib.Core.Logic.{⊎_elim}
use mathlib.Core.List.{List, ◌++◌}
use mathlib.Core.Path.{◌≡◌, refl, ap, ap₂, ◌∙◌}
use native.Mathlib.Omega.{arith}
use borrow.Author.Tests.{lt-ltb, le-ltb}
use Rattle.std.specs.Prelude.{min}
use Rattle.base.proofs.Numbers.{lt?}
use Rattle.input.specs.Layout.{pool_at, list_at}
use Rattle.input.specs.Records.{params_of, first_edge, edge_count, edge_target, arguments_of}
use Rattle.rows.specs.Rows.{term}
use Rattle.assign.specs.Steps.{Step, hints, edge_hints, edges_hints, row_steps}
use Rattle.assign.specs.Walk.{Walk, hint_step, step, run}
use Rattle.assign.proofs.Runs.{run-append, left-turn, left-next, left_none, list_turn, list_end}

-- ---- hints along an edge
module _ (ws pool : List ℕ) (a n p m j : ℕ) (w : Walk) where
  pub hints-turn : j < n → j < m
      → run ws pool (hints (list_at ws (a + j) (n - j)) (list_at ws (p + j) (m - j))) w
      ≡ run ws pool (hints (list_at ws (a + (j + 1)) (n - (j + 1))) (list_at ws (p + (j + 1)) (m - (j + 1))))
      (hint_step (pool_at ws (a + j)) (pool_at ws (p + j)) w)
  unfolding run hints step
  hints-turn h k = ap₂ (λ (x y : List ℕ). run ws pool (hints x y) w) (list_turn ws a j n h) (list_turn ws p j m k)

  -- one of the two lists is at its end
  pub hints-end : min n m ≤ j → run ws pool (hints (list_at ws (a + j) (n - j)) (list_at ws (p + j) (m - j))) w ≡ w
  unfolding run hints
  hints-end h =
      ⊎_elim
      (λ (k : j < n).
      let q : m ≤ j = omega arith in
      ap₂ (λ (x y : List ℕ). run ws pool (hints x y) w) (list_turn ws a j n k) (list_end ws p j m q))
      (λ (k : n ≤ j). rw (list_end ws a j n k))
      (lt? j n)

module _ (ws pool : List ℕ) (b e : ℕ) (w : Walk) where
  pub edge_low : edge_target ws e ≤ b → run ws pool (edge_hints ws b e) w ≡ w
  unfolding run edge_hints
  edge_low h = rw (le-ltb b (edge_target ws e) h)

  pub edge_high : b < edge_target ws e
      → run ws pool (edge_hints ws b e) w ≡ run ws pool (hints (arguments_of ws e) (params_of ws (edge_target ws e))) w
  unfolding edge_hints
  edge_high h = rw (lt-ltb b (edge_target ws e) h)

module _ (ws pool : List ℕ) (b i j n : ℕ) (w : Walk) where
  pub edges-turn : j < n
      → run ws pool (edges_hints ws b (i + j) (n - j)) w
      ≡ run ws pool (edges_hints ws b (i + (j + 1)) (n - (j + 1))) (run ws pool (edge_hints ws b (i + j)) w)
  unfolding edges_hints
  edges-turn h =
      ap (λ (l : List Step). run ws pool l w)
      (left-turn (edges_hints ws b) i j n h ∙ ap (λ (l : List Step). edge_hints ws b (i + j) ++ l) (left-next (edges_hints ws b) i j n))
      ∙ run-append ws pool (edge_hints ws b (i + j)) (edges_hints ws b (i + (j + 1)) (n - (j + 1))) w

  pub edges-end : n ≤ j → run ws pool (edges_hints ws b (i + j) (n - j)) w ≡ w
  unfolding edges_hints run
  edges-end h = ap (λ (l : List Step). run ws pool l w) (left_none (edges_hints ws b) i j n h)

-- ---- the row of a terminator
module _ (ws pool : List ℕ) (r : ℕ) (w : Walk) where
  pub term_steps : (b : ℕ)
      → run ws pool (row_steps ws r (term b)) w ≡ run ws pool (edges_hints ws b (first_edge ws b) (edge_count ws b)) w
  unfolding row_steps
  term_steps b = refl
