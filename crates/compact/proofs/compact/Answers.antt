-- A refused call is the second of the two outcomes.
use Rattle.compact.proofs.Ends.{ends-refused}
use Rattle.compact.proofs.compact.Goals as goal

pub returns-in-Err : goal.returns-in-Err
returns-in-Err c = ends-refused _ _ _ _ _ _ _ _ _ c.in-Err.ensures c.fill_from.ensures
