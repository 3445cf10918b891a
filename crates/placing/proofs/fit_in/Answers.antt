-- After the walk the map is that of the assigned places, of which each is asked for.
use mathlib.Core.Path.{ap, ◌∙◌}
use mathlib.Core.List.{List}
use Prim.Native.Nat.{ℕ}
use Rattle.place.specs.Registers.{registers}
use Rattle.rows.specs.Rows.{defs_of}
use Rattle.assign.specs.Walk.{all_placed}
use Rattle.placing.proofs.Parts.{walked-map}
use Rattle.placing.proofs.fit_in.Goals as goal

pub returns : goal.returns
returns c = let ws = c.args.ws.now in
    c.all_placed.ensures ∙ ap (λ (m : List ℕ). all_placed m (defs_of ws)) (walked-map registers ws _ _ _ _ c.give_places.ensures.noted_after)
