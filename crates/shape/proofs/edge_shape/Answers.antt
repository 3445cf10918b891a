-- Each answer is the definition with the tests that led there.
use Rattle.std.proofs.Common.{rules}
use borrow.Author.Tests.{tests}
use Rattle.shape.specs.Shape.{edge_shape}
use Rattle.shape.proofs.edge_shape.Goals as goal

pub returns-then-count-block_field : goal.returns-then-count-block_field
unfolding edge_shape
returns-then-count-block_field c = search (rules, tests)

pub returns-else-count-block_field : goal.returns-else-count-block_field
unfolding edge_shape
returns-else-count-block_field c = search (rules, tests)
