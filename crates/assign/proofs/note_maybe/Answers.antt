-- A destination is none or one note.
use Rattle.std.proofs.Common.{◌<◌, sym, arith}
use Rattle.assign.specs.Walk.{walk, note_step}
use Rattle.assign.proofs.Runs.{note_none, note-some}
use Rattle.assign.proofs.note_maybe.Goals as goal

pub returns-then-d-ne0 : goal.returns-then-d-ne0
unfolding note_step
returns-then-d-ne0 c = let a = c.args in
    let l : 0 < a.d = omega (arith, c.if-d-ne0.true) in
    λ ws pool m h.
    rw (c.set.ensures, c.live_after.ensures)
    (sym (note-some ws pool a.row (walk a.s m h a.noted.now) a.d l))

pub returns-else-d-ne0 : goal.returns-else-d-ne0
returns-else-d-ne0 c = let a = c.args in
    λ ws pool m h. sym (note_none ws pool a.row (walk a.s m h a.noted.now) a.d c.if-d-ne0.false)
