-- Records that pass their buffer.
use mathlib.Core.Path.{◌≡◌, sym}
use mathlib.Core.List.{List}
use Prim.Native.Nat.{ℕ, ◌*◌, ◌/◌, ◌≤◌, ◌<◌}
use native.Mathlib.Nat.{div-lt_iff_lt-mul, mul_comm}
use native.Mathlib.Omega.{arith}
use lib.ListN.{length}
use Rattle.base.specs.Buffers.{zero_from}
use Rattle.base.proofs.Buffers.{zero_from-past}

records-past : (words used size : ℕ) → 1 ≤ words → size / words < used → size ≤ words * used
records-past words used size h k =
    let a : size < used * words = (div-lt_iff_lt-mul {k = words} (omega arith)).0 k in
    rw (mul_comm words used) (omega arith)

pub wiped-past : (l : List ℕ) (words used : ℕ) → 1 ≤ words → length l / words < used → l ≡ zero_from l (words * used)
wiped-past l words used h e = sym (zero_from-past l (words * used) (records-past words used (length l) h e))
