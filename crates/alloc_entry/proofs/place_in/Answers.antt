-- A placement that found none changes nothing.
use Rattle.alloc_entry.proofs.Calls.{in_full}
use Rattle.alloc_entry.proofs.place_in.Goals as goal

pub returns-in-None : goal.returns-in-None
returns-in-None c = let a = c.args in
    rw c.refused.ensures (in_full a.map.now a.id a.class a.at a.hint a.pool.now a.s a.end _ _ c.place-t.ensures.value c.in-None.is)
