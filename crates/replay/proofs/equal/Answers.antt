-- Every entry before i is right, so those from i on decide.
use lib.ListN.{get_or}
use mathlib.Core.Path.{◌≡◌}
use mathlib.Core.Bool.{true, false}
use Prim.Native.Nat.{ℕ}
use Rattle.replay.proofs.Comparing.{compare_turn, compare_stop, compare_end}
use Rattle.replay.proofs.equal.Goals as goal

pub returns-then-not-same : goal.returns-then-not-same
returns-then-not-same g c =
    let none = g.T.Entry.of 0 in
    let f = λ (i : ℕ). get_or c.args.b.now i none in
    let e : g.T.Entry.same (get_or c.args.a.now c.loop-i.i none) (f c.loop-i.i) ≡ false = cc in
    compare_stop g.T.Entry.same none f c.args.n c.args.a.now c.loop-i.i c.loop-i.invariant c.loop-i-test.true e

pub loop-i-preserved : goal.loop-i-preserved
loop-i-preserved g c =
    let none = g.T.Entry.of 0 in
    let f = λ (i : ℕ). get_or c.args.b.now i none in
    let e : g.T.Entry.same (get_or c.args.a.now c.loop-i.i none) (f c.loop-i.i) ≡ true = cc in
    compare_turn g.T.Entry.same none f c.args.n c.args.a.now c.loop-i.i c.loop-i.invariant c.loop-i-test.true e

pub returns : goal.returns
returns g c =
    let none = g.T.Entry.of 0 in
    let f = λ (i : ℕ). get_or c.args.b.now i none in
    compare_end g.T.Entry.same none f c.args.n c.args.a.now c.loop-i.i c.loop-i.invariant c.loop-i-test.false
