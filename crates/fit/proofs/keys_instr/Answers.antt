-- The test of the kind is the definition's.
use Rattle.std.proofs.Common.{rules}
use borrow.Author.Tests.{tests}
use Rattle.fit.specs.Keys.{row_keys}
use Rattle.fit.proofs.keys_instr.Goals as goal

pub returns-then-instr_field-ne-LOOKUP : goal.returns-then-instr_field-ne-LOOKUP
unfolding row_keys
returns-then-instr_field-ne-LOOKUP c = search (rules, tests)

pub returns-else-instr_field-ne-LOOKUP : goal.returns-else-instr_field-ne-LOOKUP
unfolding row_keys
returns-else-instr_field-ne-LOOKUP c = search (rules, tests)
