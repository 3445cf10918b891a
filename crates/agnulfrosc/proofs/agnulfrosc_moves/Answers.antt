-- The used length is read, and the new one stored.
use Rattle.place.specs.Registers.{registers}
use Rattle.agnulfrosc.proofs.Entries.{moved_then}
use Rattle.agnulfrosc.proofs.agnulfrosc_moves.Goals as goal

pub returns : goal.returns
returns c =
    let a = c.args in
    let i = c.emit_columns in
    let s = c.numbers_of-n.ensures in
    moved_then registers a.sources.now a.destinations.now a.span a.used.now a.ops.now a.spans.now i.result _ _
    c.columns_for-c.ensures c.get_or.ensures _ _ i.ensures _ s.0 _ s.2 _ c.store_new.ensures
