-- An unused function has no strings here; a used one that is fit has its instructions in their table.
use mathlib.Core.Path.{sym, ◌∙◌}
use native.Mathlib.Omega.{arith}
use borrow.Author.Tests.{eq-eqb, ne_eqb}
use Rattle.place.specs.Registers.{registers}
use Rattle.strings.proofs.Judging.{fit_instrs, unused_grows, used_grows}
use Rattle.strings.proofs.intern_used.Goals as goal

pub returns-then-mark-ne0 : goal.returns-then-mark-ne0
returns-then-mark-ne0 c = unused_grows c.args.ws.now _ _ (ne_eqb _ 0 (λ z. c.if-mark-ne0.true (c.head_field-mark.ensures ∙ z)))

pub intern_strings-requires : goal.intern_strings-requires
intern_strings-requires c = fit_instrs registers c.args.ws.now c.requires (eq-eqb _ 0 (sym c.head_field-mark.ensures ∙ c.if-mark-ne0.false)) (omega (arith, c.type_inv.ws 13))

pub returns : goal.returns
returns c = used_grows c.args.ws.now (eq-eqb _ 0 (sym c.head_field-mark.ensures ∙ c.if-mark-ne0.false)) c.intern_strings.ensures
