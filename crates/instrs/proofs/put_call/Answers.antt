-- The rule by what the code found.
use Rattle.instrs.proofs.Instrs.{call_as}
use Rattle.instrs.proofs.put_call.Goals as goal

pub returns : goal.returns
returns c =
    λ l.
    call_as _ _ _ _ _ c.instr_field-at.ensures c.instr_field-count.ensures c.noted_for.ensures c.dest_place.ensures _ c.instr_field.ensures c.get_or-f.ensures (c.put_call.ensures l)
