-- One turn of each loop that asks whether every value has a place, and of the one that finds the highest used register.
use Prim.Native.Nat.{ℕ, suc, ◌+◌, ◌-◌, ◌<◌, ◌≤◌}
use mathlib.Core.Bool.{Bool, true, false, not}
use mathlib.Core.List.{List, [], ◌∷◌, ◌++◌}
use mathlib.Core.Logic.{◌≢◌}
use mathlib.Core.Path.{◌≡◌, refl, sym, ap, ap₂, ◌∙◌}
use native.Mathlib.Omega.{arith}
use lib.Dec.{eqb}
use lib.ListN.{length, get_or}
use borrow.Author.Tests.{eq-eqb, ne_eqb}
use Rattle.base.specs.Choice.{pick}
use Rattle.base.specs.Masks.{has_bit}
use Rattle.base.proofs.Numbers.{pick_true, pick-false}
use Rattle.input.specs.Forms.{both}
use Rattle.input.specs.Layout.{pool_at, list_at}
use Rattle.input.specs.Records.{tombstone, params_of, first_instr, instr_count}
use Rattle.rows.specs.Rows.{Row, params, instr, term, Ref, refs, instr_rows, block_rows, rows_from, over_rows, row_defs, maybe, defined_by}
use Rattle.assign.specs.Walk.{all_placed, used_below}
use Rattle.assign.specs.Fits.{rows_placed}
use Rattle.assign.proofs.Runs.{left-turn, left-next, left_none, list_turn, list_end}
use Rattle.walk.proofs.Rows.{over-append, from-turn, dead-rows, live-rows}

-- ---- values in a list
both-pick : (t a b : Bool) → both (pick t false a) b ≡ pick t false (both a b)
both-pick true a b = refl
both-pick false a b = refl

pub placed-append : (map : List ℕ) (xs ys : List Ref) → all_placed map (xs ++ ys) ≡ both (all_placed map xs) (all_placed map ys)
unfolding all_placed
placed-append map [] ys = refl
placed-append map (x ∷ xs) ys =
    ap (pick (eqb (get_or map x.value 0) 0) false) (placed-append map xs ys)
    ∙ sym (both-pick (eqb (get_or map x.value 0) 0) (all_placed map xs) (all_placed map ys))

-- the row does not matter
refs-row : (map : List ℕ) (r : ℕ) (vs : List ℕ) → all_placed map (refs r vs) ≡ all_placed map (refs 0 vs)
unfolding all_placed refs
refs-row map r [] = refl
refs-row map r (v ∷ vs) = ap (pick (eqb (get_or map v 0) 0) false) (refs-row map r vs)

defs_row : (map ws : List ℕ) (r : ℕ) (x : Row) → all_placed map (row_defs ws r x) ≡ all_placed map (row_defs ws 0 x)
unfolding row_defs
defs_row map ws r (params b) = refs-row map r (params_of ws b)
defs_row map ws r (instr i) = refs-row map r (defined_by ws i)
defs_row map ws r (term b) = refl

over-row : (map ws : List ℕ) (r : ℕ) (xs : List Row) → all_placed map (over_rows (row_defs ws) r xs) ≡ rows_placed map ws xs
unfolding over_rows
over-row map ws r [] = refl
over-row map ws r (x ∷ xs) =
    placed-append map (row_defs ws r x) (over_rows (row_defs ws) (r + 1) xs)
    ∙ ap₂ both (defs_row map ws r x) (over-row map ws (r + 1) xs ∙ sym (over-row map ws (0 + 1) xs))
    ∙ sym (placed-append map (row_defs ws 0 x) (over_rows (row_defs ws) (0 + 1) xs))

-- ---- a destination
none_is_not : (b : Bool) → pick b false true ≡ not b
none_is_not true = refl
none_is_not false = refl

module _ (map : List ℕ) (d : ℕ) where
  pub maybe_skips : d ≡ 0 → all_placed map (refs 0 (maybe d)) ≡ true
  unfolding all_placed refs
  maybe_skips h = rw h

  pub maybe_is : 0 < d → all_placed map (refs 0 (maybe d)) ≡ not (eqb (get_or map (d - 1) 0) 0)
  unfolding all_placed refs
  maybe_is h =
      let e : d ≡ suc (d - 1) = omega arith in
      ap (λ (k : ℕ). all_placed map (refs 0 (maybe k))) e ∙ none_is_not (eqb (get_or map (d - 1) 0) 0)

module _ (map ws : List ℕ) where
  pub rows_cons : (x : Row) (xs : List Row) → rows_placed map ws (x ∷ xs) ≡ both (all_placed map (row_defs ws 0 x)) (rows_placed map ws xs)
  unfolding over_rows
  rows_cons x xs =
      placed-append map (row_defs ws 0 x) (over_rows (row_defs ws) (0 + 1) xs)
      ∙ ap (both (all_placed map (row_defs ws 0 x))) (over-row map ws (0 + 1) xs)

  pub rows_append : (xs ys : List Row) → rows_placed map ws (xs ++ ys) ≡ both (rows_placed map ws xs) (rows_placed map ws ys)
  rows_append xs ys =
      ap (all_placed map) (over-append (row_defs ws) 0 xs ys)
      ∙ placed-append map (over_rows (row_defs ws) 0 xs) (over_rows (row_defs ws) (0 + length xs) ys)
      ∙ ap (both (rows_placed map ws xs)) (over-row map ws (0 + length xs) ys)

  pub rows_none : rows_placed map ws [] ≡ true
  unfolding over_rows all_placed
  rows_none = refl

  -- ---- a list of the pool
  module _ (i j n : ℕ) where
    pub list_goes : j < n → get_or map (pool_at ws (i + j)) 0 ≢ 0
        → all_placed map (refs 0 (list_at ws (i + j) (n - j))) ≡ all_placed map (refs 0 (list_at ws (i + (j + 1)) (n - (j + 1))))
    unfolding all_placed refs
    list_goes h k =
        ap (λ (l : List ℕ). all_placed map (refs 0 l)) (list_turn ws i j n h)
        ∙ rw (ne_eqb (get_or map (pool_at ws (i + j)) 0) 0 k)

    pub list_fails : j < n → get_or map (pool_at ws (i + j)) 0 ≡ 0 → all_placed map (refs 0 (list_at ws (i + j) (n - j))) ≡ false
    unfolding all_placed refs
    list_fails h k =
        ap (λ (l : List ℕ). all_placed map (refs 0 l)) (list_turn ws i j n h)
        ∙ rw (eq-eqb (get_or map (pool_at ws (i + j)) 0) 0 k)

    pub list_done : n ≤ j → all_placed map (refs 0 (list_at ws (i + j) (n - j))) ≡ true
    unfolding all_placed refs
    list_done h = ap (λ (l : List ℕ). all_placed map (refs 0 l)) (list_end ws i j n h)

  -- ---- the rows of instructions
  module _ (i j n : ℕ) where
    instrs_split : j < n
        → rows_placed map ws (instr_rows (i + j) (n - j))
        ≡ both (all_placed map (refs 0 (defined_by ws (i + j)))) (rows_placed map ws (instr_rows (i + (j + 1)) (n - (j + 1))))
    unfolding instr_rows row_defs
    instrs_split h =
        ap (rows_placed map ws) (left-turn instr_rows i j n h ∙ ap (λ (l : List Row). instr (i + j) ∷ l) (left-next instr_rows i j n))
        ∙ rows_cons (instr (i + j)) (instr_rows (i + (j + 1)) (n - (j + 1)))

    pub instrs_go : j < n → all_placed map (refs 0 (defined_by ws (i + j))) ≡ true
        → rows_placed map ws (instr_rows (i + j) (n - j)) ≡ rows_placed map ws (instr_rows (i + (j + 1)) (n - (j + 1)))
    instrs_go h k = instrs_split h ∙ pick_true _ _ _ k

    pub instrs_fail : j < n → all_placed map (refs 0 (defined_by ws (i + j))) ≡ false
        → rows_placed map ws (instr_rows (i + j) (n - j)) ≡ false
    instrs_fail h k = instrs_split h ∙ pick-false _ _ _ k

    pub instrs_done : n ≤ j → rows_placed map ws (instr_rows (i + j) (n - j)) ≡ true
    unfolding instr_rows
    instrs_done h = ap (rows_placed map ws) (left_none instr_rows i j n h) ∙ rows_none

  -- ---- a block
  both_true : (a : Bool) → both a true ≡ a
  both_true true = refl
  both_true false = refl

  pub dead-placed : (b : ℕ) → tombstone ws b ≢ 0 → rows_placed map ws (block_rows ws b) ≡ true
  dead-placed b h = ap (rows_placed map ws) (dead-rows ws b h) ∙ rows_none

  pub live-placed : (b : ℕ) → tombstone ws b ≡ 0
      → rows_placed map ws (block_rows ws b)
      ≡ both (all_placed map (refs 0 (params_of ws b))) (rows_placed map ws (instr_rows (first_instr ws b) (instr_count ws b)))
  unfolding row_defs all_placed
  live-placed b h =
      let xs : List Row = instr_rows (first_instr ws b) (instr_count ws b) in
      let e : rows_placed map ws (term b ∷ []) ≡ true = rows_cons (term b) [] ∙ rows_none in
      ap (rows_placed map ws) (live-rows ws b h)
      ∙ rows_cons (params b) (xs ++ (term b ∷ []))
      ∙ ap (both (all_placed map (refs 0 (params_of ws b))))
      (rows_append xs (term b ∷ []) ∙ ap (both (rows_placed map ws xs)) e ∙ both_true (rows_placed map ws xs))

  -- ---- all blocks
  module _ (b n : ℕ) where
    pub blocks_go : b < n → rows_placed map ws (block_rows ws b) ≡ true
        → rows_placed map ws (rows_from ws b (n - b)) ≡ rows_placed map ws (rows_from ws (b + 1) (n - (b + 1)))
    blocks_go h k =
        ap (rows_placed map ws) (from-turn ws b n h)
        ∙ rows_append (block_rows ws b) (rows_from ws (b + 1) (n - (b + 1)))
        ∙ pick_true _ _ _ k

    pub blocks_fail : b < n → rows_placed map ws (block_rows ws b) ≡ false → rows_placed map ws (rows_from ws b (n - b)) ≡ false
    blocks_fail h k =
        ap (rows_placed map ws) (from-turn ws b n h)
        ∙ rows_append (block_rows ws b) (rows_from ws (b + 1) (n - (b + 1)))
        ∙ pick-false _ _ _ k

    pub blocks-done : n ≤ b → rows_placed map ws (rows_from ws b (n - b)) ≡ true
    unfolding rows_from
    blocks-done h = let e : n - b ≡ 0 = omega arith in ap (λ (k : ℕ). rows_placed map ws (rows_from ws b k)) e ∙ rows_none

-- ---- the highest used register
module _ (m r : ℕ) where
  pub used_hit : 0 < r → has_bit m (r - 1) ≡ true → used_below m r ≡ r
  unfolding used_below
  used_hit h k =
      let e : r ≡ suc (r - 1) = omega arith in
      ap (used_below m) e ∙ pick_true _ _ _ k ∙ sym e

  pub used_turn : 0 < r → has_bit m (r - 1) ≡ false → used_below m r ≡ used_below m (r - 1)
  unfolding used_below
  used_turn h k =
      let e : r ≡ suc (r - 1) = omega arith in
      ap (used_below m) e ∙ pick-false _ _ _ k

  pub used_end : r ≤ 0 → used_below m r ≡ 0
  unfolding used_below
  used_end h = let e : r ≡ 0 = omega arith in ap (used_below m) e
