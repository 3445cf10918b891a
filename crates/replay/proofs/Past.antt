-- Words past the end of a file.
use Prim.Native.Nat.{ℕ, ◌+◌, ◌/◌, ◌≤◌}
use mathlib.Core.Path.{◌≡◌, sym}
use mathlib.Core.List.{List}
use native.Mathlib.Omega.{arith}
use borrow.Author.Tests.{le-ltb}
use lib.ListN.{length}
use Rattle.replay.specs.Words.{word_at, wide_at}

pub word-past : (l : List ℕ) (i : ℕ) → length l / 4 ≤ i → 0 ≡ word_at l i
unfolding word_at
word-past l i h = rw (le-ltb i (length l / 4) h)

pub wide-past : (l : List ℕ) (i : ℕ) → length l / 4 ≤ i → 0 ≡ wide_at l i
unfolding wide_at
wide-past l i h =
    let h' : length l / 4 ≤ i + 1 = omega arith in
    rw (sym (word-past l i h), sym (word-past l (i + 1) h'))
