-- A store where the table had 0, and none elsewhere.
use Rattle.std.proofs.Common.{ℕ, true, List, sym, ap, ◌∙◌}
use Rattle.rows.specs.Rows.{ref}
use Rattle.fit.specs.Tabled.{marks}
use Rattle.fit.proofs.Filling.{mark-new, mark-again}
use Rattle.fit.proofs.define.Goals as goal

pub returns-then-next-ne0 : goal.returns-then-next-ne0
returns-then-next-ne0 c = sym (mark-again _ _ (λ e. c.if-next-ne0.true (c.get_or-next.ensures ∙ e)))

pub returns : goal.returns
returns c =
    let a = c.args in
    let word = c.get_or-next in
    ap (λ (t : List ℕ). marks t true) c.set.ensures
    ∙ sym (mark-new a.table.now (ref a.r a.v) (sym word.ensures ∙ c.if-next-ne0.false))
