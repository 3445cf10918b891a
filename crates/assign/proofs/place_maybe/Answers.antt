-- A destination is none or one step.
use mathlib.Core.Path.{sym, ◌∙◌}
use native.Mathlib.Omega.{arith}
use Prim.Native.Nat.{◌<◌}
use Rattle.assign.specs.Walk.{walk}
use Rattle.assign.proofs.Runs.{maybe_none, maybe-some}
use Rattle.assign.proofs.place_maybe.Goals as goal

pub returns-then-d-eq0 : goal.returns-then-d-eq0
returns-then-d-eq0 c = let a = c.args in
    record { good = c.requires; by_index = λ n. sym (maybe_none a.r.ws.now a.r.pool.now a.r.row (walk a.s a.map.now a.r.wish.now n) a.d c.if-d-eq0.true) }

pub returns : goal.returns
returns c = let a = c.args in
    let h : 0 < a.d = omega (arith, c.if-d-eq0.false) in record { good = c.place_value.ensures.good; by_index = λ n. c.place_value.ensures.by_index n ∙ sym (maybe-some a.r.ws.now a.r.pool.now a.r.row (walk a.s a.map.now a.r.wish.now n) a.d h) }
