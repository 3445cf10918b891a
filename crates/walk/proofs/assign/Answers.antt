-- The buffers after zeroing and the first hints, and a fresh allocator, are where the walk begins.
use mathlib.Core.List.{[]}
use mathlib.Core.Path.{refl, ◌∙◌}
use Rattle.place.specs.Registers.{registers}
use Rattle.walk.proofs.Begin.{assigned_is}
use Rattle.walk.proofs.assign.Goals as goal

pub shape_of-map : goal.shape_of-map
shape_of-map c = c.all_blocks.auto.map ∙ c.fill_from.auto.a

pub returns : goal.returns
returns c = let a = c.args in record {
  good = c.all_blocks.ensures.good_2;
  noted_after = c.all_blocks.ensures.noted_after
      ∙ assigned_is registers a.ws.now a.pool.now [] a.map.now a.wish.now a.noted.now _ _ _ _ c.requires.lent c.requires.pool_value refl c.new.ensures.value c.fill_from.ensures c.first_hints.ensures c.fill_from-2.ensures;
}
