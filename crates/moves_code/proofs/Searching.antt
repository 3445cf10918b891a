-- The searches of the library in the words of the rules.
use Rattle.std.proofs.Common.{◌≡◌, ℕ, suc, ◌+◌, ◌≤◌, List, [], ◌∷◌, Bool, true, false, not, eqb, cond, length, refl, arith}
use Rattle.std.specs.List.{list_any, position, position_or_len}
use Rattle.std.specs.Option.{unwrap_or}
use Rattle.std.proofs.lemmas.Bool.Decides.{nat_tests}
use Rattle.std.proofs.lemmas.Grind.{common_steps}
use Rattle.std.proofs.lemmas.List.Recursion.{is_position_or_len}
use Rattle.std.proofs.lemmas.List.Sums.{prefix_len-le-length}
use Rattle.base.specs.Choice.{pick}
use Rattle.base.specs.Lists.{among}
use Rattle.moves.specs.Moves.{first_ready}

pub any_is_among : (d : ℕ) (l : List ℕ) → list_any (λ y. eqb y d) l ≡ among d l
any_is_among d [] = refl
any_is_among d (y ∷ l) = let e : list_any (λ y. eqb y d) l ≡ among d l = any_is_among d l in grind (arith, nat_tests)

ready_or_none : (ss ds : List ℕ) → first_ready ss ds ≡ position_or_len (λ d. not (list_any (λ y. eqb y d) ss)) ds
ready_or_none ss = is_position_or_len (first_ready ss) (λ d. not (list_any (λ y. eqb y d) ss)) refl (λ d ds. rw (any_is_among d ss) (go (among d ss) (first_ready ss ds)))
  where
    go : (b : Bool) (n : ℕ) → pick b (suc n) 0 ≡ cond (not b) 0 (1 + n)
    go true n = omega arith
    go false n = refl

pub ready_is : (ss ds : List ℕ) → unwrap_or (position (λ d. not (list_any (λ y. eqb y d) ss)) ds) (length ds) ≡ first_ready ss ds
ready_is ss ds =
    let h : position_or_len (λ d. not (list_any (λ y. eqb y d) ss)) ds ≤ length ds = prefix_len-le-length _ ds in
    rw (ready_or_none ss ds) (grind (arith, nat_tests, common_steps))
