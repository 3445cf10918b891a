-- 8, then 9, then the places: each exit is one law.
use mathlib.Core.Path.{refl, sym, ◌∙◌}
use native.Mathlib.Omega.{arith}
use Rattle.place.specs.Registers.{registers}
use Rattle.placing.proofs.Tried.{tried_no_slot, tried_no_room, tried_given, places-given}
use Rattle.placing.proofs.place_values.Goals as goal

pub returns-then-not-enough : goal.returns-then-not-enough
returns-then-not-enough c = let a = c.args in
    tried_no_slot registers a.ws.now a.places.now a.hints.now a.noted.now a.places.now _ (sym c.all_fit-enough.ensures ∙ c.if-not-enough.true)

pub returns-then-not-wide : goal.returns-then-not-wide
returns-then-not-wide c = let a = c.args in
    tried_no_room registers a.ws.now a.places.now a.hints.now a.noted.now a.places.now _ (sym c.all_fit-enough.ensures ∙ c.if-not-enough.false) (sym c.room_ok-wide.ensures ∙ c.if-not-wide.true)

pub give-s-requires : goal.give-s-requires
give-s-requires c = record { ready = c.requires; room = sym c.room_ok-wide.ensures ∙ c.if-not-wide.false }

pub overflow_cast-result : goal.overflow_cast-result
overflow_cast-result c = omega (arith, c.give-s.ensures.3.capped)

pub returns : goal.returns
returns c = let a = c.args in
    let g = c.give-s in
    let room = sym c.room_ok-wide.ensures ∙ c.if-not-wide.false in
    tried_given registers a.ws.now a.places.now a.hints.now a.noted.now _ _ _ (sym c.all_fit-enough.ensures ∙ c.if-not-enough.false) room
    (places-given registers a.ws.now a.places.now a.hints.now a.noted.now _ _ _ g.result room g.ensures.0 g.ensures.3 g.ensures.1 g.ensures.2 g.auto.noted refl c.top_used.ensures)
