-- The last check was of the first ops, as many as are used.
use mathlib.Core.Path.{◌≡◌}
use native.Mathlib.Omega.{arith}
use lib.ListN.{length, take}
use lib.Seq.{length-take-le}
use Rattle.compact.specs.Entry.{refusal}
use Rattle.compact.proofs.Every.{words_are}
use Rattle.compact.proofs.judge.Goals as goal

pub returns-then-not-pcs_ok : goal.returns-then-not-pcs_ok
unfolding refusal
returns-then-not-pcs_ok c =
    let a = c.args in
    let n : length (take a.used a.ops.now) ≡ a.used = length-take-le a.used a.ops.now (grind arith) in
    let p = rw n at c.pcs_ok.ensures in
    grind (arith, words_are)

pub returns : goal.returns
unfolding refusal
returns c =
    let a = c.args in
    let n : length (take a.used a.ops.now) ≡ a.used = length-take-le a.used a.ops.now (grind arith) in
    let p = rw n at c.pcs_ok.ensures in
    grind (arith, words_are)
