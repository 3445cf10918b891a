-- Below 64 the code's shift of 1 is the power of two that the definition joins; from 64 up nothing changes.
use mathlib.Core.Path.{sym}
use native.Mathlib.Omega.{arith}
use Rattle.base.proofs.Masks.{one_shl, with_low, with_high}
use Rattle.base.proofs.with.Goals as goal

pub returns-then-k-lt64 : goal.returns-then-k-lt64
returns-then-k-lt64 c =
    let k = c.args.k in
    rw (one_shl k c.if-k-lt64.true) (sym (with_low c.args.m k c.if-k-lt64.true))

pub returns-else-k-lt64 : goal.returns-else-k-lt64
returns-else-k-lt64 c = sym (with_high c.args.m c.args.k (omega arith))
