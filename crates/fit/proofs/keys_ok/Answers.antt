-- The keys that are left, with the smallest and the largest rank so far, answer for all; a step is below 256.
use Rattle.std.proofs.Common.{◌≡◌, ◌+◌, ◌-◌, sym, ◌∙◌, arith}
use Rattle.fit.specs.Keys.{keys_at}
use Rattle.fit.proofs.Ranks.{keys-start, keys-end, keys_fail, keys_go}
use Rattle.fit.proofs.keys_ok.Goals as goal

pub loop-i-init : goal.loop-i-init
loop-i-init c =
    let a = c.args in
    let e : a.n - 0 ≡ a.n = omega arith in
    (omega arith, omega arith, rw e (keys-start a.ws.now (keys_at a.step a.first a.n)))

pub returns-then-constant_at-ne-INT : goal.returns-then-constant_at-ne-INT
returns-then-constant_at-ne-INT c =
    let a = c.args in
    let l = c.loop-i in
    keys_fail a.ws.now l.low l.high a.step l.c (a.n - l._i) _ l.invariant.2
    (omega arith) (λ e. c.if-constant_at-ne-INT.true (c.constant_at.ensures ∙ e))

pub loop-i-preserved : goal.loop-i-preserved
loop-i-preserved c =
    let a = c.args in
    let l = c.loop-i in
    let e : a.n - (l._i + 1) ≡ a.n - l._i - 1 = omega arith in
    let rest = keys_go a.ws.now l.low l.high a.step l.c (a.n - l._i) _ l.invariant.2 (omega arith) (sym c.constant_at.ensures ∙ c.if-constant_at-ne-INT.false) in
    (omega arith, omega (arith, c.min-low.ensures), rw (e, c.min-low.ensures, c.max-high.ensures, c.rank-key.ensures) rest)

pub returns : goal.returns
returns c =
    let a = c.args in
    let l = c.loop-i in
    rw c.saturating_sub.ensures
    (keys-end a.ws.now l.low l.high a.step l.c (a.n - l._i) _ l.invariant.2 (omega arith) l.invariant.1)
