-- The columns of a list of moves, as words of the caller's own buffers.
use mathlib.Core.Path.{◌≡◌}
use mathlib.Core.List.{List}
use Prim.Native.Nat.{ℕ}
use lib.ListN.{length, replicate}
use lib.Seq.{sets}
use Rattle.moves_entry.specs.declared.Columns.{Columns}
use Rattle.agnulfrosc.specs.Library.{columns_for}

-- two copies to the front of 190 zeros are the columns
pub columns_copied : (ss ds : List ℕ) {s d : List ℕ} → s ≡ sets (replicate 190 0) 0 ss → d ≡ sets (replicate 190 0) 0 ds
    → ◌≡◌ {A = Columns} (record { src = s; dst = d; count = length ss }) (columns_for ss ds)
columns_copied ss ds es ed = rw (es, ed)
