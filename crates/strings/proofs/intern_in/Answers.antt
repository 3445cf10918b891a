-- The list starts with the globals that are used, grows, and goes back where all of it found room.
use mathlib.Core.Path.{sym}
use native.Mathlib.Omega.{arith}
use lib.Seq.{length-take-le}
use Rattle.place.specs.Registers.{registers}
use Rattle.strings.proofs.Outcomes.{within, held, held-within, no_room, all_held}
use Rattle.strings.proofs.intern_in.Goals as goal

pub overflow_mul-n : goal.overflow_mul-n
overflow_mul-n c = omega (arith, (within c.args.globals.now c.args.used c.requires.1).in_all)

pub slice_bounds-copy-end : goal.slice_bounds-copy-end
slice_bounds-copy-end c = (within c.args.globals.now c.args.used c.requires.1).in_buffer

pub slice_bounds-copy-end-2 : goal.slice_bounds-copy-end-2
slice_bounds-copy-end-2 c = sym (length-take-le _ _ (within c.args.globals.now c.args.used c.requires.1).in_buffer)

pub returns-then-e : goal.returns-then-e
returns-then-e c =
    let a = c.args in
    let h = held registers a.words.now a.ends.now a.globals.now a.used a.list.now _ _ _ _ c.requires.0 c.requires.1 c.requires.2
    c.copy.ensures c.room.ensures c.intern_list-e.ensures in
    no_room h c.if-e.true

pub slice_bounds-copy-end-3 : goal.slice_bounds-copy-end-3
slice_bounds-copy-end-3 c =
    let a = c.args in
    let h = held registers a.words.now a.ends.now a.globals.now a.used a.list.now _ _ _ _ c.requires.0 c.requires.1 c.requires.2
    c.copy.ensures c.room.ensures c.intern_list-e.ensures in
    held-within h

pub slice_bounds-copy-end-4 : goal.slice_bounds-copy-end-4
slice_bounds-copy-end-4 c =
    let a = c.args in
    let h = held registers a.words.now a.ends.now a.globals.now a.used a.list.now _ _ _ _ c.requires.0 c.requires.1 c.requires.2
    c.copy.ensures c.room.ensures c.intern_list-e.ensures in
    sym (length-take-le _ _ (held-within h))

pub returns : goal.returns
returns c =
    let a = c.args in
    let h = held registers a.words.now a.ends.now a.globals.now a.used a.list.now _ _ _ _ c.requires.0 c.requires.1 c.requires.2
    c.copy.ensures c.room.ensures c.intern_list-e.ensures in
    all_held h _ c.if-e.false c.copy-2.ensures
