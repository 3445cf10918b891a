-- Two copies to the front of zeros.
use Rattle.agnulfrosc.proofs.Words.{columns_copied}
use Rattle.agnulfrosc.proofs.columns_for.Goals as goal

pub returns : goal.returns
returns c =
    let a = c.args in
    columns_copied a.sources.now a.destinations.now c.copy.ensures c.copy-2.ensures
