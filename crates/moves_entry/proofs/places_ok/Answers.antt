-- What `all` found, in the words of the rule.
use Rattle.std.proofs.Common.{rules, tests, ◌∙◌}
use Rattle.std.proofs.lemmas.Iterator.{YieldsList-from_slice}
use Rattle.std.proofs.lemmas.Iterator.Search.{all_from_yields_List}
use Rattle.place.specs.Registers.{registers}
use Rattle.moves.specs.AtOnce.{place_ok}
use Rattle.moves_entry.specs.Entry.{move_slots}
use Rattle.moves_entry.proofs.Checks.{all_is}
use Rattle.moves_entry.proofs.places_ok.Goals as goal

pub returns : goal.returns
returns c =
    let ps = c.args.ps.now in
    all_from_yields_List (place_ok registers move_slots) _ _ _ c.all.ensures.ran (YieldsList-from_slice ps cc) (λ x b q k. search (rules, tests))
    ∙ all_is registers move_slots ps
