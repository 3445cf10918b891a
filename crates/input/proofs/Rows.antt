-- A flat list of numbers cut into rows of one width. Assumes nothing.
use mathlib.Core.Path.{◌≡◌, ◌∙◌}
use mathlib.Core.List.{List, [], ◌∷◌}
use Prim.Native.Nat.{ℕ, zero, suc, ◌+◌, ◌*◌, ◌<◌}
use native.Mathlib.Nat.{mul-suc, not-suc-le-zero, le_of_suc-le-suc}
use native.Mathlib.Omega.{arith}
use lib.ListN.{get_or, take, drop}
use lib.Seq.{get_or-take, get_or-drop}

-- the first n rows, each of w numbers
abbrev pub rows_of : ℕ → ℕ → List ℕ → List (List ℕ)
rows_of w zero l = []
rows_of w (suc n) l = take w l ∷ rows_of w n (drop w l)

-- field k of row i
pub row_field : (w n : ℕ) (l : List ℕ) (i k : ℕ) → i < n → k < w → get_or (get_or (rows_of w n l) i []) k 0 ≡ get_or l (w * i + k) 0
row_field w zero l i k h b = absurd (not-suc-le-zero h)
row_field w (suc n) l zero k h b = let e : w * 0 + k ≡ k = omega arith in rw e (get_or-take w l k 0 b)
row_field w (suc n) l (suc i) k h b =
    let e : w * suc i + k ≡ w + (w * i + k) = rw mul-suc (omega arith) in
    rw e (row_field w n (drop w l) i k (le_of_suc-le-suc h) b ∙ get_or-drop w l (w * i + k) 0)
