-- What a function with few enough of everything says of its rows and values.
use Prim.Native.Nat.{ℕ, zero, suc, ◌+◌, ◌≤◌}
use mathlib.Core.Bool.{true}
use mathlib.Core.List.{List}
use mathlib.Core.Path.{◌≡◌, refl, sym}
use borrow.Author.Tests.{leb-true}
use lib.Dec.{leb}
use lib.ListN.{length, length-append}
use Rattle.base.specs.Limits.{most_values, most_blocks, most_rows}
use Rattle.input.specs.Layout.{values, blocks}
use Rattle.input.proofs.Chain.{both-parts}
use Rattle.rows.specs.Rows.{block_rows, rows_from, rows_of}
use Rattle.shape.specs.Counts.{row_count, counts_ok}
use Rattle.rows.proofs.Every.{length-block}

-- the rows that are counted are those of the list
pub rows-counted : (ws : List ℕ) (b n : ℕ) → row_count ws b n ≡ length (rows_from ws b n)
unfolding row_count rows_from
rows-counted ws b zero = refl
rows-counted ws b (suc n) =
    rw (rows-counted ws (b + 1) n, ← length-block ws b) (sym (length-append (block_rows ws b) (rows_from ws (b + 1) n)))

pub record Few (ws : List ℕ) : Type 0 where
  pub few_values : values ws ≤ most_values
  pub few_blocks : blocks ws ≤ most_blocks
  pub few_rows : length (rows_of ws) ≤ most_rows

pub counts-given : (n : ℕ) (ws : List ℕ) → counts_ok n ws ≡ true → Few ws
unfolding counts_ok
counts-given n ws e =
    let p = both-parts (leb (values ws) most_values) _ e in
    let q = both-parts (leb (blocks ws) most_blocks) _ p.1 in
    let s = both-parts (leb (row_count ws 0 (blocks ws)) most_rows) _ q.1 in
    record {
      few_values = leb-true _ _ p.0;
      few_blocks = leb-true _ _ q.0;
      few_rows = rw (rows-counted ws 0 (blocks ws)) at (leb-true (row_count ws 0 (blocks ws)) most_rows s.0);
    }
