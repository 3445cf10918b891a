-- The words of places: a value in use has the word of a pool register or of a slot made, one more than the place.
use mathlib.Core.Path.{◌≡◌}
use Prim.Native.Nat.{ℕ, ◌+◌, ◌-◌, ◌≤◌}
use mathlib.Core.List.{List}
use mathlib.Core.Bool.{true}
use native.Mathlib.Omega.{arith}
use borrow.Author.Tests.{ltb-true, lt-ltb, le-ltb}
use Rattle.place.specs.Places.{slots_from}
use Rattle.moves.specs.AtOnce.{place_ok}
use Rattle.assign.specs.Walk.{slots_made}
use Rattle.sharing.specs.Sharing.{Held, in_register, in_slot}

pub held_ok : (n : ℕ) (ws : List ℕ) (x : ℕ) → n ≤ 64 → Held n ws x → place_ok n (slots_made n ws) (x - 1) ≡ true
held_ok n ws x hi (in_register r h) =
    let e : 1 + r - 1 ≡ r = omega arith in
    rw (e, lt-ltb r slots_from (omega (arith, ltb-true r (n - 2) h))) h
held_ok n ws x hi (in_slot k h l) =
    let e : 257 + k - 1 ≡ 256 + k = omega arith in
    let f : 256 + k - slots_from ≡ k = omega arith in
    rw (e, le-ltb (256 + k) slots_from (omega arith), f) (lt-ltb k (slots_made n ws) h)

held-some : (n : ℕ) (ws : List ℕ) (x : ℕ) → Held n ws x → 1 ≤ x
held-some n ws x (in_register r h) = omega arith
held-some n ws x (in_slot k h l) = omega arith

-- equal places have equal words
pub held_same : (n : ℕ) (ws : List ℕ) (x y : ℕ) → Held n ws x → Held n ws y → x - 1 ≡ y - 1 → x ≡ y
held_same n ws x y h k e = omega (arith, e, held-some n ws x h, held-some n ws y k)
