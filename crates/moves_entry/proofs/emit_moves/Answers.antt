-- What comes back of the list's columns is what comes back of the list.
use Rattle.std.proofs.Common.{refl, ap, ◌∙◌}
use Rattle.place.specs.Registers.{registers}
use Rattle.moves_entry.specs.declared.Columns.{Columns}
use Rattle.moves_entry.specs.Gathering.{columns_outcome}
use Rattle.moves_entry.proofs.Outcomes.{list_outcome}
use Rattle.moves_entry.proofs.emit_moves.Goals as goal

pub returns : goal.returns
returns c =
    let a = c.args in (
      c.emit_columns.ensures ∙ ap (λ (d : Columns). columns_outcome registers d a.used a.span a.ops.now a.spans.now) c.gather-c.ensures
          ∙ list_outcome registers a.list.now a.used a.span a.ops.now a.spans.now,
      refl,
    )
