-- Each answer is the definition with the tests that led there. The table of zeros is that of no definitions.
use mathlib.Core.List.{[]}
use mathlib.Core.Path.{◌∙◌}
use Rattle.std.proofs.Common.{rules}
use borrow.Author.Tests.{tests}
use Rattle.rows.specs.Rows.{defined}
use Rattle.shape.specs.Shape.{shape_ok}
use Rattle.judge.proofs.Which.{pass_shape}
use Rattle.judge.proofs.shape_ok.Goals as goal

pub returns-then-block_field-eq0 : goal.returns-then-block_field-eq0
unfolding shape_ok defined
returns-then-block_field-eq0 c =
    rw (c.pass.ensures [] c.requires.1 ∙ pass_shape c.args.ws.now c.args.functions.now []) (search (rules, tests))

pub returns-else-block_field-eq0 : goal.returns-else-block_field-eq0
unfolding shape_ok
returns-else-block_field-eq0 c = search (rules, tests)
