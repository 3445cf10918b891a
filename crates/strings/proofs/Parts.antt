-- The functions between their ends, one after the other.
use mathlib.Core.Path.{◌≡◌, sym, ap, ◌∙◌}
use mathlib.Core.Logic.{⊎_elim, ◌≢◌}
use Prim.Native.Nat.{ℕ, ◌+◌, ◌-◌, ◌≤◌, ◌<◌, min, max}
use mathlib.Core.List.{List, [], ◌∷◌}
use native.Mathlib.Numerals.{add-one}
use native.Mathlib.Omega.{arith}
use borrow.Author.Tests.{ne_eqb}
use lib.ListN.{length, get_or, take, drop, length-drop, drop_of_length-le}
use lib.Seq.{drop-cons, take_all, take-nil}
use Rattle.base.specs.Choice.{pick}
use Rattle.base.proofs.Numbers.{lt?, same?}
use Rattle.refusal.specs.declared.Refusal.{Refusal}
use Rattle.refusal.specs.Numbers.{number_of}
use Rattle.judge.proofs.Verdicts.{some}
use Rattle.interning.specs.Interning.{strings_interned}
use Rattle.strings.specs.Strings.{functions_in, is_used, unfit_string, Unfit, first_unfit, all_strings}

-- a part that starts no further than the list and ends neither further nor before its start is the part as it was given
pub part_same : (l : List ℕ) (from end lo hi : ℕ) → lo ≡ min from (length l) → hi ≡ max (min from (length l)) (min end (length l))
    → take (hi - lo) (drop lo l) ≡ take (end - from) (drop from l)
part_same l from end lo hi a b =
    ⊎_elim
    (λ (h : length l < from).
    let x : drop lo l ≡ [] = drop_of_length-le l {i = lo} (omega arith) in
    let y : drop from l ≡ [] = drop_of_length-le l {i = from} (omega arith) in
    rw (x, y, take-nil (hi - lo), take-nil (end - from)))
    (λ (h : from ≤ length l).
    let e : lo ≡ from = omega arith in
    ⊎_elim
    (λ (k : length l < end).
    let n : length (drop from l) ≡ length l - from = length-drop from l in
    rw e (take_all (hi - from) (drop from l) (omega arith) ∙ sym (take_all (end - from) (drop from l) (omega arith))))
    (λ (k : end ≤ length l). let s : hi - lo ≡ end - from = omega arith in rw (s, e))
    (lt? (length l) end))
    (lt? (length l) from)

-- where no function is unfit the first is not
fit-first : (n k : ℕ) (f : List ℕ) (fs : List (List ℕ)) → (first_unfit n k (f ∷ fs)).number ≡ 0 → unfit_string n f ≡ 0
unfolding first_unfit
fit-first n k f fs e =
    ⊎_elim
    (λ (z : unfit_string n f ≡ 0). z)
    (λ (z : unfit_string n f ≢ 0). absurd (z (rw (ne_eqb (unfit_string n f) 0 z) at e)))
    (same? (unfit_string n f) 0)

module _ (words : List ℕ) (from : ℕ) (ends : List ℕ) (k : ℕ) where
  -- no function is left
  functions-end : length ends ≤ k → functions_in words from (drop k ends) ≡ []
  unfolding functions_in
  functions-end h = rw (drop_of_length-le ends {i = k} h)

  -- of an empty list none is unfit
  pub first_none : (n : ℕ) → length ends ≤ k → first_unfit n k (functions_in words from (drop k ends)) ≡ record { number = 0; index = 0 }
  unfolding first_unfit
  first_none n h = rw (functions-end h)

  -- and it has no strings
  pub strings_none : length ends ≤ k → (g : List ℕ) → all_strings (functions_in words from (drop k ends)) g ≡ g
  unfolding all_strings
  strings_none h g = rw (functions-end h)

  module _ (end : ℕ) (is : end ≡ get_or ends k 0) (h : k < length ends) where
    -- the next function, and those behind it
    functions-turn : functions_in words from (drop k ends) ≡ take (end - from) (drop from words) ∷ functions_in words end (drop (k + 1) ends)
    unfolding functions_in
    functions-turn = rw (is, add-one k, drop-cons ends k 0 h)

    -- it is the first that is unfit
    pub first_found : (n : ℕ) (why : Refusal) → number_of why ≡ unfit_string n (take (end - from) (drop from words))
        → first_unfit n k (functions_in words from (drop k ends)) ≡ record { number = number_of why; index = k }
    unfolding first_unfit
    first_found n why e = rw (functions-turn, ← e, some why)

    -- it is fit, and the first is behind it
    pub first_on : (n : ℕ) → unfit_string n (take (end - from) (drop from words)) ≡ 0
        → first_unfit n k (functions_in words from (drop k ends)) ≡ first_unfit n (k + 1) (functions_in words end (drop (k + 1) ends))
    unfolding first_unfit
    first_on n e = rw (functions-turn, e)

    -- none is unfit: neither it
    pub fit-here : (n : ℕ) → (first_unfit n k (functions_in words from (drop k ends))).number ≡ 0
        → unfit_string n (take (end - from) (drop from words)) ≡ 0
    unfolding first_unfit
    fit-here n e = fit-first n k (take (end - from) (drop from words)) (functions_in words end (drop (k + 1) ends)) (rw functions-turn at e)

    -- nor one behind it
    pub fit_on : (n : ℕ) → (first_unfit n k (functions_in words from (drop k ends))).number ≡ 0
        → (first_unfit n (k + 1) (functions_in words end (drop (k + 1) ends))).number ≡ 0
    fit_on n e = sym (ap (λ (u : Unfit). u.number) (first_on n (fit-here n e))) ∙ e

    -- its strings, then those of the others
    pub strings_turn : (g : List ℕ) → all_strings (functions_in words from (drop k ends)) g
        ≡ all_strings (functions_in words end (drop (k + 1) ends)) (pick (is_used (take (end - from) (drop from words))) (strings_interned (take (end - from) (drop from words)) g) g)
    unfolding all_strings
    strings_turn g = rw functions-turn
