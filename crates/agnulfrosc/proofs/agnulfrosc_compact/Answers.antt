-- The used lengths are read, and the new one stored.
use Rattle.agnulfrosc.proofs.Entries.{compacted-then}
use Rattle.agnulfrosc.proofs.agnulfrosc_compact.Goals as goal

pub returns : goal.returns
returns c =
    let a = c.args in
    let i = c.compact in
    let s = c.numbers_of-n.ensures in
    compacted-then a.used.now a.ops.now a.spans.now a.targets.now a.functions.now a.work.now i.result _ _
    c.get_or.ensures c.get_or-2.ensures _ _ _ _ _ i.ensures _ s.0 _ s.1 _ c.store_new.ensures
