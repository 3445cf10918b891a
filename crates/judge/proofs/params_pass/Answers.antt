-- What each check asks of the row is the definition's.
use Rattle.std.proofs.Common.{rules, ◌≡◌, sym, ◌∙◌, ⊎_elim}
use Rattle.fit.specs.Callees.{row_callee}
use Rattle.fit.specs.Keys.{row_keys}
use Rattle.fit.proofs.Checks.{params_row}
use Rattle.judge.specs.declared.RowCheck.TheVariants.{Callee, Keys}
use Rattle.judge.specs.Passes.{row_ok}
use Rattle.judge.proofs.params_pass.Goals as goal

pub returns-in-Shape : goal.returns-in-Shape
unfolding row_ok
returns-in-Shape c = search rules

pub returns-in-Interval : goal.returns-in-Interval
unfolding row_ok
returns-in-Interval c = λ fs ds. rw c.in-Interval.is (c.fit_params.ensures ∙ sym (params_row c.args.ws.now ds c.args.r c.args.b))

pub returns-in-Callee : goal.returns-in-Callee
unfolding row_ok row_callee row_keys
returns-in-Callee c = λ fs ds. ⊎_elim (λ (q : c.args.which ≡ Callee). rw q) (λ (q : c.args.which ≡ Keys). rw q) c.in-Callee.is
