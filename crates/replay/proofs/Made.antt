-- How long arrays and parts of them are.
use Prim.Native.Nat.{ℕ, ◌+◌, ◌≤◌}
use mathlib.Core.Path.{◌≡◌, sym, ap, ◌∙◌}
use mathlib.Core.List.{List, ◌++◌}
use lib.ListN.{length, take, drop, replicate, length-replicate, length-append, take-append-drop}
use lib.Seq.{length-take-le}

-- an array is as long as it was made, whatever its length
pub made : (n x : ℕ) → length (replicate n x) ≡ n
made n x = length-replicate n x

-- a part fits that is no longer
pub part_fits : {k m n : ℕ} → m ≡ n → k ≤ n → k ≤ m
part_fits e h = rw e h

-- and it is as long as it is said to be
pub part_long : (l : List ℕ) {k n : ℕ} → length l ≡ n → k ≤ n → k ≡ length (take k l)
part_long l {k} e h = sym (length-take-le k l (part_fits e h))

-- a buffer is as long as it was once a part of it that was lent is back
pub given_back : (part l : List ℕ) (k : ℕ) {n : ℕ} → length part ≡ length (take k l) → length l ≡ n → n ≡ length (part ++ drop k l)
given_back part l k h e =
    sym
    (length-append part (drop k l)
    ∙ ap (λ (m : ℕ). m + length (drop k l)) h
    ∙ sym (length-append (take k l) (drop k l))
    ∙ ap length (take-append-drop k l)
    ∙ e)
