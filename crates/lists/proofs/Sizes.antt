-- The words that there is room for, over plain numbers.
use Prim.Native.Nat.{ℕ, ◌*◌, ◌/◌, ◌≤◌, min}
use native.Mathlib.Nat.{mul-le-mul, mul-div-le}
use native.Mathlib.Omega.{arith}
use Rattle.base.specs.Limits.{most_of_a_kind}

-- there is no more room than the buffer has words
pub room-lent : (words n : ℕ) → words * min (n / words) most_of_a_kind ≤ n
room-lent words n =
    let m : min (n / words) most_of_a_kind ≤ n / words = omega arith in
    let w : words ≤ words = omega arith in
    omega (arith, mul-le-mul w m, mul-div-le n words)
