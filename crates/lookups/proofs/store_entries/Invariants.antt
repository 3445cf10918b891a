-- The entries from the j-th on are left, each with a slot of the table.
use Rattle.fit.specs.Keys.{keys_at}
use Rattle.lookups.proofs.Lookups.{EntriesLeft}
use Rattle.lookups.proofs.store_entries.Given as goal

abbrev pub invariant-loop-j : goal.invariant-loop-j
invariant-loop-j l = EntriesLeft l.ws (keys_at 2 l.c l.n) l.t.start l.c l.n l.initial.values l.t.end l.j l.values l.t.end
