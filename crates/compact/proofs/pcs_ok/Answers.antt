-- Three tests that all have to pass are the chain of choices in `pcs_ok`.
use native.Mathlib.Omega.{arith}
use lib.ListN.{length}
use Rattle.compact.proofs.Every.{ops_in, targets_in, starts_in, every_is}
use Rattle.compact.proofs.pcs_ok.Goals as goal

pub returns-then-all_within : goal.returns-then-all_within
returns-then-all_within c =
    let a = c.args in
    let n = length a.ops.now in
    rw (← every_is (ops_in n) a.ops.now, ← every_is (targets_in n) a.targets.now, ← every_is (starts_in n) a.functions.now) (grind arith)

pub returns-else-all_within : goal.returns-else-all_within
returns-else-all_within c =
    let a = c.args in
    let n = length a.ops.now in
    rw (← every_is (ops_in n) a.ops.now, ← every_is (targets_in n) a.targets.now, ← every_is (starts_in n) a.functions.now) (grind arith)
