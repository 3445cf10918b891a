-- One law for each test that ends it.
use Rattle.std.proofs.Common.{sym, ◌∙◌}
use Rattle.place.specs.Registers.{registers}
use Rattle.moves_entry.proofs.Outcomes.{too_many, bad_move, good_moves}
use Rattle.moves_entry.proofs.emit_columns.Goals as goal

pub returns-then-not-few_enough : goal.returns-then-not-few_enough
returns-then-not-few_enough c =
    too_many registers c.args.c c.args.used c.args.span c.args.ops.now c.args.spans.now (sym c.few_enough.ensures ∙ c.if-not-few_enough.true)

pub returns-then-not-moves_ok : goal.returns-then-not-moves_ok
returns-then-not-moves_ok c =
    bad_move registers c.args.c c.args.used c.args.span c.args.ops.now c.args.spans.now (sym c.few_enough.ensures ∙ c.if-not-few_enough.false) (sym c.moves_ok.ensures ∙ c.if-not-moves_ok.true)

pub returns : goal.returns
returns c =
    good_moves registers c.args.c c.args.used c.args.span c.args.ops.now c.args.spans.now (sym c.few_enough.ensures ∙ c.if-not-few_enough.false) (sym c.moves_ok.ensures ∙ c.if-not-moves_ok.false) c.append.ensures
