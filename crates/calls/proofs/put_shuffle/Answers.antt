-- The moves of the gathered columns.
use Rattle.place.specs.Registers.{registers}
use Rattle.input.specs.Layout.{list_at}
use Rattle.calls.proofs.Shuffling.{shuffled}
use Rattle.calls.proofs.put_shuffle.Goals as goal

pub returns : goal.returns
returns c =
    let a = c.args in
    let g = c.gather_arguments-n.ensures in
    λ l. shuffled registers a.a.vs.map.now a.pushes (list_at a.a.vs.ws.now a.a.at a.a.count) _ _ g.1 g.2 (c.put_moves.ensures l)
