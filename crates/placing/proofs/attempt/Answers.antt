-- A refusal from 1 to 7 is the answer; a function that none of them hits is ready.
use native.Mathlib.Omega.{arith}
use Rattle.std.proofs.lemmas.Result.{err_from_is_err_and}
use Rattle.place.specs.Registers.{registers}
use Rattle.placing.proofs.Ends.{judged_ready, ends-unfit, ends-tried}
use Rattle.placing.proofs.attempt.Goals as goal

pub returns-in_err-judge : goal.returns-in_err-judge
returns-in_err-judge c = let a = c.args in
    let p = err_from_is_err_and c.from_residual.result c.from_residual.ensures.1 in
    rw (p.1, p.2) (ends-unfit registers a.ws.now a.functions.now a.map.now a.hints.now a.noted.now _ c.in_err-judge.ensures)

pub place_values-requires : goal.place_values-requires
place_values-requires c = let a = c.args in
    judged_ready a.ws.now a.functions.now c.in_ok-judge.ensures (omega (arith, c.type_inv.ws 13))

pub returns : goal.returns
returns c = let a = c.args in
    ends-tried registers a.ws.now a.functions.now a.map.now a.hints.now a.noted.now c.in_ok-judge.ensures _ _ _ c.place_values.ensures
