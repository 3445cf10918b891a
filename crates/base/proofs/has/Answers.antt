-- The last digit of a number is what an and with 1 leaves, and a u64 has no digit from 64 on.
use mathlib.Core.Path.{sym, ap, ◌∙◌}
use Prim.Native.Nat.{ℕ, ◌/◌, ◌^◌}
use native.Mathlib.Omega.{arith}
use lib.Bits.{and_mask}
use borrow.Author.Tests.{le-ltb}
use lib.Dec.{eqb}
use Rattle.base.specs.Masks.{has_bit}
use Rattle.base.proofs.Masks.{has_high}
use Rattle.base.proofs.has.Goals as goal

pub returns-then-k-lt64 : goal.returns-then-k-lt64
unfolding has_bit
returns-then-k-lt64 c = ap (λ (x : ℕ). eqb x 1) (and_mask (c.args.m / 2 ^ c.args.k) 1)

pub returns-else-k-lt64 : goal.returns-else-k-lt64
returns-else-k-lt64 c =
    le-ltb c.args.k 64 c.if-k-lt64.false ∙ sym (has_high c.args.m c.args.k (omega arith) (omega arith))
