-- Filling the table of rows part by part: a part that had no row yet goes on with the rest, one that had stops.
use Prim.Native.Nat.{ℕ, ◌+◌}
use mathlib.Core.Bool.{true, false}
use mathlib.Core.List.{List, [], ◌++◌, append-nil}
use mathlib.Core.Path.{◌≡◌, sym, ap, ◌∙◌}
use Rattle.input.specs.Records.{is_live, first_instr, instr_count}
use Rattle.rows.specs.Rows.{Ref, params, instr_rows, block_rows, over_rows, row_defs}
use Rattle.fit.specs.Tabled.{Marks, marks, marked}
use Rattle.fit.proofs.Filling.{marked_append, marked_stopped}
use Rattle.rows.proofs.Every.{over-live, over-dead}

module _ (t t' : List ℕ) (es ds : List Ref) (m : Marks) where
  pub fill_go : marks t' true ≡ marked es (marks t true) → marked (es ++ ds) (marks t true) ≡ m → marked ds (marks t' true) ≡ m
  fill_go e i = ap (marked ds) e ∙ sym (marked_append es ds (marks t true)) ∙ i

  pub fill_stop : marks t' false ≡ marked es (marks t true) → marked (es ++ ds) (marks t true) ≡ m → marks t' false ≡ m
  fill_stop e i = sym (marked_stopped ds t') ∙ ap (marked ds) e ∙ sym (marked_append es ds (marks t true)) ∙ i

-- nothing is left
pub fill_none : (t : List ℕ) (ds : List Ref) (m : Marks) → ds ≡ [] → marked ds (marks t true) ≡ m → marks t true ≡ m
unfolding marked
fill_none t ds m e i = sym (rw e) ∙ i

-- ---- a block's definitions

module _ (ws : List ℕ) (r b : ℕ) where
  defs_live : is_live ws b ≡ true
      → over_rows (row_defs ws) r (block_rows ws b) ≡ row_defs ws r (params b) ++ over_rows (row_defs ws) (r + 1) (instr_rows (first_instr ws b) (instr_count ws b))
  unfolding row_defs
  defs_live h =
      over-live (row_defs ws) ws r b h
      ∙ ap (λ (l : List Ref). row_defs ws r (params b) ++ l) (append-nil (over_rows (row_defs ws) (r + 1) (instr_rows (first_instr ws b) (instr_count ws b))))

  module _ (t t' : List ℕ) where
    pub block_dead : is_live ws b ≡ false → marks t true ≡ marked (over_rows (row_defs ws) r (block_rows ws b)) (marks t true)
    unfolding marked
    block_dead h = rw (over-dead (row_defs ws) ws r b h)

    pub block-stop : is_live ws b ≡ true → marks t' false ≡ marked (row_defs ws r (params b)) (marks t true)
        → marks t' false ≡ marked (over_rows (row_defs ws) r (block_rows ws b)) (marks t true)
    block-stop h e =
        fill_stop t t' (row_defs ws r (params b)) (over_rows (row_defs ws) (r + 1) (instr_rows (first_instr ws b) (instr_count ws b)))
        (marked (over_rows (row_defs ws) r (block_rows ws b)) (marks t true)) e (rw (defs_live h))

    pub block_go : {m : Marks} → is_live ws b ≡ true → marks t' true ≡ marked (row_defs ws r (params b)) (marks t true)
        → m ≡ marked (over_rows (row_defs ws) (r + 1) (instr_rows (first_instr ws b) (instr_count ws b))) (marks t' true)
        → m ≡ marked (over_rows (row_defs ws) r (block_rows ws b)) (marks t true)
    block_go h e rest =
        rest
        ∙ fill_go t t' (row_defs ws r (params b)) (over_rows (row_defs ws) (r + 1) (instr_rows (first_instr ws b) (instr_count ws b)))
        (marked (over_rows (row_defs ws) r (block_rows ws b)) (marks t true)) e (rw (defs_live h))
