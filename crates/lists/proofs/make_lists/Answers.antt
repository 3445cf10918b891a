-- Three functions make two lists each.
use Rattle.lists.proofs.Making.{listed-not, listed}
use Rattle.lists.proofs.make_lists.Goals as goal

pub intern-a-requires : goal.intern-a-requires
intern-a-requires c =
    let r = c.requires in
    record { ready = r.ready; globals = r.started.globals; builtins = r.started.builtins }

pub switch_tables-b-requires : goal.switch_tables-b-requires
switch_tables-b-requires c =
    let r = c.requires in
    record { ready = r.ready; placed = r.placed; switches = r.started.switches; targets = r.started.targets; few = r.started.targets_few }

pub lookup_tables-c-requires : goal.lookup_tables-c-requires
lookup_tables-c-requires c =
    let r = c.requires in
    record { ready = r.ready; lookups = r.started.lookups; values = r.started.values; few = r.started.values_few }

pub returns-then-not-a-b : goal.returns-then-not-a-b
returns-then-not-a-b c =
    listed-not c.args.ws.now c.args.places.now c.args.u c.intern-a.ensures c.switch_tables-b.ensures c.lookup_tables-c.ensures c.if-not-a-b.true

pub returns : goal.returns
returns c =
    listed c.args.ws.now c.args.places.now c.args.u c.intern-a.ensures c.switch_tables-b.ensures c.lookup_tables-c.ensures c.if-not-a-b.false
