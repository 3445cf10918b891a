-- By what the map's word says of the id, and by what `take` got.
use Rattle.alloc_entry.proofs.Calls.{found-again, found_asked}
use Rattle.alloc_entry.proofs.finds_none.Goals as goal

pub returns-in-Some : goal.returns-in-Some
returns-in-Some c = let a = c.args in
    found-again a.map.now a.id a.class a.at a.hint a.pool.now a.s _ _ c.found_of.ensures c.get_or.ensures _ c.in-Some.is

pub returns-in-None : goal.returns-in-None
returns-in-None c = let a = c.args in
    found_asked a.map.now a.id a.class a.at a.hint a.pool.now a.s _ _ c.found_of.ensures c.get_or.ensures _ _ c.in-None.is c.expire.ensures.value c.take.ensures _ c.is_none.ensures
