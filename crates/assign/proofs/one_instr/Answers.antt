-- The row's steps: first the note, then the destination's placement.
use mathlib.Core.Path.{sym, ap, ◌∙◌}
use Rattle.rows.specs.Rows.{maybe}
use Rattle.assign.specs.Steps.{places}
use Rattle.assign.specs.Walk.{walk, run}
use Rattle.assign.proofs.Runs.{instr_split}
use Rattle.assign.proofs.one_instr.Goals as goal

pub returns : goal.returns
returns c = let a = c.args in
    let ws = a.r.ws.now in
    let pool = a.r.pool.now in record {
      good = c.place_maybe-t.ensures.good;
      noted_after = c.place_maybe-t.ensures.by_index c.note_row.new.noted
          ∙ ap (run ws pool (places a.r.row (maybe c.instr_field-d.result))) (c.note_row.ensures pool a.map.now a.r.wish.now)
          ∙ rw c.instr_field-d.ensures (sym (instr_split ws pool a.r.row (walk a.s a.map.now a.r.wish.now a.noted.now) a.i));
    }
