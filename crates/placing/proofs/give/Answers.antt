-- The walk writes the first words of the map and of the noted registers, one for each value.
use mathlib.Core.Path.{sym}
use lib.Seq.{length-take-le}
use Rattle.place.specs.Registers.{registers}
use Rattle.ready.proofs.Given.{fits}
use Rattle.placing.proofs.Parts.{room_says, parts-lent, walked-alloc, walked-front, walked-noted}
use Rattle.placing.proofs.give.Goals as goal

pub slice_bounds-give_places-end : goal.slice_bounds-give_places-end
slice_bounds-give_places-end c = let a = c.args in
    (room_says a.ws.now a.map.now a.hints.now a.noted.now _ c.head_field-n.ensures c.requires.room).for_map

pub slice_bounds-give_places-end-2 : goal.slice_bounds-give_places-end-2
slice_bounds-give_places-end-2 c = let a = c.args in
    sym (length-take-le _ _ (room_says a.ws.now a.map.now a.hints.now a.noted.now _ c.head_field-n.ensures c.requires.room).for_map)

pub slice_bounds-give_places-end-3 : goal.slice_bounds-give_places-end-3
slice_bounds-give_places-end-3 c = let a = c.args in
    (room_says a.ws.now a.map.now a.hints.now a.noted.now _ c.head_field-n.ensures c.requires.room).for_hints

pub slice_bounds-give_places-end-4 : goal.slice_bounds-give_places-end-4
slice_bounds-give_places-end-4 c = let a = c.args in
    sym (length-take-le _ _ (room_says a.ws.now a.map.now a.hints.now a.noted.now _ c.head_field-n.ensures c.requires.room).for_hints)

pub slice_bounds-give_places-end-5 : goal.slice_bounds-give_places-end-5
slice_bounds-give_places-end-5 c = let a = c.args in
    (room_says a.ws.now a.map.now a.hints.now a.noted.now _ c.head_field-n.ensures c.requires.room).for_noted

pub slice_bounds-give_places-end-6 : goal.slice_bounds-give_places-end-6
slice_bounds-give_places-end-6 c = let a = c.args in
    sym (length-take-le _ _ (room_says a.ws.now a.map.now a.hints.now a.noted.now _ c.head_field-n.ensures c.requires.room).for_noted)

pub give_places-requires : goal.give_places-requires
give_places-requires c = let a = c.args in
    record { fits = fits a.ws.now c.requires.ready; lent = parts-lent a.ws.now a.map.now a.hints.now a.noted.now _ c.head_field-n.ensures (room_says a.ws.now a.map.now a.hints.now a.noted.now _ c.head_field-n.ensures c.requires.room) }

pub returns : goal.returns
returns c = let a = c.args in
    let g = c.give_places in
    let room = room_says a.ws.now a.map.now a.hints.now a.noted.now _ c.head_field-n.ensures c.requires.room in
    (walked-alloc registers a.ws.now _ _ _ _ g.ensures.noted_after, walked-front registers a.ws.now _ _ _ _ g.ensures.noted_after a.map.now _ room.for_map g.auto.map, walked-noted registers a.ws.now _ _ _ _ g.ensures.noted_after a.noted.now _ c.head_field-n.ensures room.for_noted g.auto.noted, g.ensures.good)
