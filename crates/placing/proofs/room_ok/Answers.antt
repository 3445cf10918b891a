-- Each test is that of one buffer.
use Rattle.placing.proofs.Parts.{room_is}
use Rattle.placing.proofs.room_ok.Goals as goal

pub returns : goal.returns
returns c = let a = c.args in
    room_is a.ws.now a.map.now a.hints.now a.noted.now _ c.head_field-n.ensures
