-- What `position` found, in the words of the rule.
use Rattle.std.proofs.Common.{rules, tests, ◌≡◌, eqb, not, ◌∙◌}
use Rattle.std.specs.List.{position, list_any}
use Rattle.std.proofs.lemmas.Iterator.{YieldsList-from_slice}
use Rattle.std.proofs.lemmas.Iterator.Search.{position_from_yields_List}
use Rattle.moves_code.proofs.Searching.{ready_is}
use Rattle.moves_code.proofs.first_ready.Goals as goal

pub returns : goal.returns
returns c =
    let p : c.position.result ≡ position (λ d. not (list_any (λ y. eqb y d) c.args.src.now)) c.args.dst.now =
    position_from_yields_List (λ d. not (list_any (λ y. eqb y d) c.args.src.now)) _ _ _ c.position.ensures.ran (YieldsList-from_slice c.args.dst.now cc) (λ x b q k. search (rules, tests)) in
    (rw p at c.unwrap_or.ensures) ∙ ready_is c.args.src.now c.args.dst.now
