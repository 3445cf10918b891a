-- Each return is the definition with the tests that led there. Few enough values and rows let the table be a local array.
use mathlib.Core.Path.{sym, ◌∙◌}
use Rattle.base.proofs.Buffers.{get_or-zeros}
use Rattle.place.specs.Registers.{registers}
use Rattle.judge.proofs.Few.{counts-given}
use Rattle.judge.proofs.Lowest.{bad_word, too_many, then-rows}
use Rattle.judge.proofs.judge.Goals as goal

pub returns-then-not-words_ok : goal.returns-then-not-words_ok
returns-then-not-words_ok c =
    let a = c.args in
    bad_word a.ws.now a.functions.now registers (sym c.words_ok.ensures ∙ c.if-not-words_ok.true)

pub returns-then-not-counts_ok : goal.returns-then-not-counts_ok
returns-then-not-counts_ok c =
    let a = c.args in
    too_many a.ws.now a.functions.now registers (sym c.words_ok.ensures ∙ c.if-not-words_ok.false)
    (sym c.counts_ok.ensures ∙ c.if-not-counts_ok.true)

pub judge_rows-requires : goal.judge_rows-requires
judge_rows-requires c =
    let a = c.args in
    let few = counts-given registers a.ws.now (sym c.counts_ok.ensures ∙ c.if-not-counts_ok.false) in
    (few.few_rows, few.few_values, get_or-zeros 4096)

pub returns : goal.returns
returns c =
    let a = c.args in
    c.judge_rows.ensures
    ∙ then-rows a.ws.now a.functions.now registers (sym c.words_ok.ensures ∙ c.if-not-words_ok.false)
    (sym c.counts_ok.ensures ∙ c.if-not-counts_ok.false)
