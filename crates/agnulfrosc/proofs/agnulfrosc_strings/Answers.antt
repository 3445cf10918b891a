-- The used length is read, and the answer stored in two words.
use Rattle.place.specs.Registers.{registers}
use Rattle.agnulfrosc.proofs.Entries.{interned-then}
use Rattle.agnulfrosc.proofs.agnulfrosc_strings.Goals as goal

pub returns : goal.returns
returns c =
    let a = c.args in
    let i = c.intern_strings in
    let s = c.strings_numbers-n.ensures in
    interned-then registers a.words.now a.ends.now a.globals.now a.answer.now i.result _ c.get_or-used.ensures _ i.ensures
    _ s.0 _ s.1 _ s.2 _ c.store_both.ensures
