-- Used lengths that are read from words, and stored as words.
use mathlib.Core.Path.{◌≡◌, ap, ◌∙◌}
use mathlib.Core.Logic.{◌≢◌}
use mathlib.Core.List.{List}
use Prim.Native.Nat.{ℕ}
use borrow.Author.Tests.{ne_eqb}
use lib.ListN.{get_or, set}
use Rattle.lists.specs.declared.Used.{Used}
use Rattle.answers.specs.Answers.{used_in, used_after}

-- one store behind others
pub then : {l m n : List ℕ} (k x : ℕ) → n ≡ set m k x → m ≡ l → n ≡ set l k x
then k x e f = e ∙ ap (λ (w : List ℕ). set w k x) f

-- seven words that are read are the used lengths
pub used_read : (l : List ℕ) {o g b s t p v : ℕ} → o ≡ get_or l 0 0 → g ≡ get_or l 1 0 → b ≡ get_or l 2 0 → s ≡ get_or l 3 0 → t ≡ get_or l 4 0
    → p ≡ get_or l 5 0 → v ≡ get_or l 6 0
    → ◌≡◌ {A = Used} (record { ops = o; globals = g; builtins = b; switches = s; targets = t; lookups = p; values = v }) (used_in l)
used_read l eo eg eb es et ep ev = rw (eo, eg, eb, es, et, ep, ev)

-- a new used length is stored where the number is 0,
pub new-stored : (used : List ℕ) (number new : ℕ) {l : List ℕ} → number ≡ 0 → l ≡ set used 0 new → l ≡ used_after used number new
new-stored used number new h e = rw h e

-- and nowhere else
pub new_none : (used : List ℕ) (number new : ℕ) → number ≢ 0 → used ≡ used_after used number new
new_none used number new h = rw (ne_eqb number 0 h)
