-- What reading at a position answers, by its number and its word. Assumes nothing.
use mathlib.Core.Path.{◌≡◌, refl, sym}
use mathlib.Core.Logic.{⊎_elim}
use mathlib.Core.Bool.{Bool, true, false}
use mathlib.Core.List.{List}
use Prim.Native.Nat.{ℕ, ◌≤◌, ◌<◌}
use borrow.Author.Tests.{lt-ltb, le-ltb}
use lib.Dec.{ltb}
use lib.ListN.{length, get_or, get_or-eq_default}
use Rattle.base.specs.Choice.{pick}
use Rattle.base.proofs.Numbers.{lt?}
use Rattle.std.specs.Prelude.{Some, None}
use Rattle.reader.specs.Reader.{step_at, step_number, step_word}

-- 0 before the end, 1 from there on
pub step-number : (ws : List ℕ) (at : ℕ) → step_number (step_at ws at) ≡ pick (ltb at (length ws)) 0 1
step-number ws at = of (ltb at (length ws))
  where
    of : (before : Bool) → step_number (pick before (Some (get_or ws at 0)) None) ≡ pick before 0 1
    of true = refl
    of false = refl

-- the word at the position, 0 past the end
pub step-word : (ws : List ℕ) (at : ℕ) → step_word (step_at ws at) ≡ get_or ws at 0
step-word ws at =
    ⊎_elim
    (λ (h : at < length ws). rw (lt-ltb at (length ws) h))
    (λ (h : length ws ≤ at). rw (le-ltb at (length ws) h) (sym (get_or-eq_default ws 0 h)))
    (lt? at (length ws))
