-- The test of the kind is the definition's.
use Rattle.std.proofs.Common.{rules}
use borrow.Author.Tests.{tests}
use Rattle.fit.specs.Keys.{row_keys}
use Rattle.fit.proofs.keys_term.Goals as goal

pub returns-then-block_field-ne-SWITCH : goal.returns-then-block_field-ne-SWITCH
unfolding row_keys
returns-then-block_field-ne-SWITCH c = search (rules, tests)

pub returns-else-block_field-ne-SWITCH : goal.returns-else-block_field-ne-SWITCH
unfolding row_keys
returns-else-block_field-ne-SWITCH c = search (rules, tests)
