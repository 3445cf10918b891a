-- The checks of places in the words of the library.
use lib.Seq.{take_all}
use Rattle.std.proofs.Common.{take, ◌-◌, length-drop, arith, ◌≡◌, ℕ, ◌+◌, ◌<◌, List, [], ◌∷◌, Bool, true, false, ◌&&◌, eqb, length, get_or, drop, refl, add-one, drop-cons}
use Rattle.std.specs.List.{list_any, list_all}
use Rattle.base.specs.Choice.{pick}
use Rattle.base.specs.Lists.{distinct}
use Rattle.moves.specs.AtOnce.{place_ok, all_ok}
use Rattle.moves_code.proofs.Searching.{any_is_among}

pub all_is : (n slots : ℕ) (ps : List ℕ) → list_all (place_ok n slots) ps ≡ all_ok n slots ps
all_is n slots [] = refl
all_is n slots (p ∷ ps) = rw (all_is n slots ps) (go (place_ok n slots p) (all_ok n slots ps))
  where
    go : (b c : Bool) → (b && c) ≡ pick b c false
    go true c = refl
    go false c = refl

-- a turn judges the one at i, and what is behind it is left
pub distinct_turn : (ps : List ℕ) (i : ℕ) (b : Bool) → i < length ps
    → b ≡ list_any (λ y. eqb y (get_or ps i 0)) (take (length ps - (i + 1)) (drop (i + 1) ps))
    → distinct (drop i ps) ≡ pick b false (distinct (drop (i + 1) ps))
distinct_turn ps i b h e =
    let r : take (length ps - (i + 1)) (drop (i + 1) ps) ≡ drop (i + 1) ps = take_all _ _ (simp length-drop (omega arith)) in
    rw (drop-cons ps i 0 h, e, r, any_is_among (get_or ps i 0) (drop (i + 1) ps), add-one i)
