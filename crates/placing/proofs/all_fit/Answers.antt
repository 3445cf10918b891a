-- A function has at most 4,096 values, so the arrays have a word for each.
use mathlib.Core.Path.{sym}
use lib.Seq.{length-take-le}
use native.Mathlib.Omega.{arith}
use Rattle.ready.proofs.Given.{fits}
use Rattle.placing.proofs.Parts.{zeros-lent}
use Rattle.placing.proofs.all_fit.Goals as goal

pub slice_bounds-fit_in-end : goal.slice_bounds-fit_in-end
slice_bounds-fit_in-end c = sym (length-take-le _ _ (omega (arith, c.head_field-n.ensures, c.requires.few_values)))

pub slice_bounds-fit_in-end-2 : goal.slice_bounds-fit_in-end-2
slice_bounds-fit_in-end-2 c = sym (length-take-le _ _ (omega (arith, c.head_field-n.ensures, c.requires.few_values)))

pub slice_bounds-fit_in-end-3 : goal.slice_bounds-fit_in-end-3
slice_bounds-fit_in-end-3 c = sym (length-take-le _ _ (omega (arith, c.head_field-n.ensures, c.requires.few_values)))

pub fit_in-requires : goal.fit_in-requires
fit_in-requires c = record { fits = fits c.args.ws.now c.requires; lent = zeros-lent c.args.ws.now c.head_field-n.result c.head_field-n.ensures c.requires.few_values }
