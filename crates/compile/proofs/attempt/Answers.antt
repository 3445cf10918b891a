-- Each step that is refused ends the attempt, each other is known to the next.
use Rattle.std.proofs.lemmas.Result.{err_from_is_err_and}
use Rattle.place.specs.Registers.{registers}
use Rattle.place.proofs.Registers.{registers_most}
use Rattle.lists.specs.Lists.{lists}
use Rattle.first_checks.specs.Buffers.{lent}
use Rattle.compile.proofs.Attempts.{sized, refused_early, ready_then, refused_places, refused_entry, lists_ready, refused_lists, lowerable_then, places_then, program_then, refused_put, targets_then, attempted}
use Rattle.compile.proofs.attempt.Goals as goal

pub returns-in_err-early : goal.returns-in_err-early
returns-in_err-early c =
    let a = c.args in
    let b =
    lent a.ops.now a.spans.now a.globals.now a.builtins.now a.functions.now a.switches.now
    a.targets.now a.lookups.now a.values.now a.places.now a.hints.now a.noted.now a.labels.now in
    let w = (c.type_inv.ws 13).fits in
    let r = err_from_is_err_and c.from_residual.result c.from_residual.ensures.1 in
    rw (r.1, r.2) (refused_early registers registers_most a.ws.now a.used b w _ (c.in_err-early.ensures b (sized b)))

pub place_values-requires : goal.place_values-requires
place_values-requires c =
    let a = c.args in
    let b =
    lent a.ops.now a.spans.now a.globals.now a.builtins.now a.functions.now a.switches.now
    a.targets.now a.lookups.now a.values.now a.places.now a.hints.now a.noted.now a.labels.now in
    let w = (c.type_inv.ws 13).fits in
    ready_then registers registers_most a.ws.now a.used b w (c.in_ok-early.ensures b (sized b))

pub returns-in_err-p : goal.returns-in_err-p
returns-in_err-p c =
    let a = c.args in
    let b =
    lent a.ops.now a.spans.now a.globals.now a.builtins.now a.functions.now a.switches.now
    a.targets.now a.lookups.now a.values.now a.places.now a.hints.now a.noted.now a.labels.now in
    let w = (c.type_inv.ws 13).fits in
    let e = c.in_ok-early.ensures b (sized b) in
    let r = err_from_is_err_and c.from_residual-in_err-p.result c.from_residual-in_err-p.ensures.1 in
    rw (r.1, r.2) (refused_places registers registers_most a.ws.now a.used b w e _ c.in_err-p.ensures)

pub returns-in_err-with_entry : goal.returns-in_err-with_entry
returns-in_err-with_entry c =
    let a = c.args in
    let b =
    lent a.ops.now a.spans.now a.globals.now a.builtins.now a.functions.now a.switches.now
    a.targets.now a.lookups.now a.values.now a.places.now a.hints.now a.noted.now a.labels.now in
    let w = (c.type_inv.ws 13).fits in
    let e = c.in_ok-early.ensures b (sized b) in
    let p = c.in_ok-p.ensures in
    let r = err_from_is_err_and c.from_residual-in_err-with_entry.result c.from_residual-in_err-with_entry.ensures.1 in
    rw (r.1, r.2) (refused_entry registers registers_most a.ws.now a.used b w e p _ (c.in_err-with_entry.ensures b (sized b)))

pub make_lists-requires : goal.make_lists-requires
make_lists-requires c =
    let a = c.args in
    let b =
    lent a.ops.now a.spans.now a.globals.now a.builtins.now a.functions.now a.switches.now
    a.targets.now a.lookups.now a.values.now a.places.now a.hints.now a.noted.now a.labels.now in
    let w = (c.type_inv.ws 13).fits in
    let e = c.in_ok-early.ensures b (sized b) in
    let p = c.in_ok-p.ensures in
    let k = c.in_ok-with_entry.ensures b (sized b) in
    lists_ready registers registers_most a.ws.now a.used b w e p k

pub returns-in_err-l : goal.returns-in_err-l
returns-in_err-l c =
    let a = c.args in
    let b =
    lent a.ops.now a.spans.now a.globals.now a.builtins.now a.functions.now a.switches.now
    a.targets.now a.lookups.now a.values.now a.places.now a.hints.now a.noted.now a.labels.now in
    let w = (c.type_inv.ws 13).fits in
    let e = c.in_ok-early.ensures b (sized b) in
    let p = c.in_ok-p.ensures in
    let k = c.in_ok-with_entry.ensures b (sized b) in
    let g = lists c.make_lists.new.globals c.make_lists.new.builtins c.make_lists.new.switches c.make_lists.new.targets c.make_lists.new.lookups c.make_lists.new.values in
    let r = err_from_is_err_and c.from_residual-in_err-l.result c.from_residual-in_err-l.ensures.1 in
    rw (r.1, r.2) (refused_lists registers registers_most a.ws.now a.used b w e p k {lists' = g} _ c.in_err-l.ensures)

pub put_function-requires-clause-lowerable : goal.put_function-requires-clause-lowerable
put_function-requires-clause-lowerable c =
    let a = c.args in
    let b =
    lent a.ops.now a.spans.now a.globals.now a.builtins.now a.functions.now a.switches.now
    a.targets.now a.lookups.now a.values.now a.places.now a.hints.now a.noted.now a.labels.now in
    let w = (c.type_inv.ws 13).fits in
    let e = c.in_ok-early.ensures b (sized b) in
    let p = c.in_ok-p.ensures in
    let k = c.in_ok-with_entry.ensures b (sized b) in
    let g = lists c.make_lists.new.globals c.make_lists.new.builtins c.make_lists.new.switches c.make_lists.new.targets c.make_lists.new.lookups c.make_lists.new.values in
    let l = c.in_ok-l.ensures in
    lowerable_then registers registers_most a.ws.now a.used b w e p k {lists' = g} l

pub put_function-requires-clause-places_ready : goal.put_function-requires-clause-places_ready
put_function-requires-clause-places_ready c =
    let a = c.args in
    let b =
    lent a.ops.now a.spans.now a.globals.now a.builtins.now a.functions.now a.switches.now
    a.targets.now a.lookups.now a.values.now a.places.now a.hints.now a.noted.now a.labels.now in
    let w = (c.type_inv.ws 13).fits in
    let e = c.in_ok-early.ensures b (sized b) in
    let p = c.in_ok-p.ensures in
    let k = c.in_ok-with_entry.ensures b (sized b) in
    let g = lists c.make_lists.new.globals c.make_lists.new.builtins c.make_lists.new.switches c.make_lists.new.targets c.make_lists.new.lookups c.make_lists.new.values in
    let l = c.in_ok-l.ensures in
    places_then registers registers_most a.ws.now a.used b w e p k {lists' = g} l

pub put_function-requires-clause-program_ready : goal.put_function-requires-clause-program_ready
put_function-requires-clause-program_ready c =
    let a = c.args in
    let b =
    lent a.ops.now a.spans.now a.globals.now a.builtins.now a.functions.now a.switches.now
    a.targets.now a.lookups.now a.values.now a.places.now a.hints.now a.noted.now a.labels.now in
    let w = (c.type_inv.ws 13).fits in
    let e = c.in_ok-early.ensures b (sized b) in
    let p = c.in_ok-p.ensures in
    let k = c.in_ok-with_entry.ensures b (sized b) in
    let g = lists c.make_lists.new.globals c.make_lists.new.builtins c.make_lists.new.switches c.make_lists.new.targets c.make_lists.new.lookups c.make_lists.new.values in
    let l = c.in_ok-l.ensures in
    program_then registers registers_most a.ws.now a.used b w e p k {lists' = g} l

pub returns-in_err-f : goal.returns-in_err-f
returns-in_err-f c =
    let a = c.args in
    let b =
    lent a.ops.now a.spans.now a.globals.now a.builtins.now a.functions.now a.switches.now
    a.targets.now a.lookups.now a.values.now a.places.now a.hints.now a.noted.now a.labels.now in
    let w = (c.type_inv.ws 13).fits in
    let e = c.in_ok-early.ensures b (sized b) in
    let p = c.in_ok-p.ensures in
    let k = c.in_ok-with_entry.ensures b (sized b) in
    let g = lists c.make_lists.new.globals c.make_lists.new.builtins c.make_lists.new.switches c.make_lists.new.targets c.make_lists.new.lookups c.make_lists.new.values in
    let l = c.in_ok-l.ensures in
    let r = err_from_is_err_and c.from_residual-in_err-f.result c.from_residual-in_err-f.ensures.1 in
    rw (r.1, r.2) (refused_put registers registers_most a.ws.now a.used b w e p k {lists' = g} l {ops'' = c.put_function.new.ops} {spans'' = c.put_function.new.spans} {labels'' = c.put_function.new.labels} {functions'' = c.put_function.new.functions} _ c.in_err-f.ensures)

pub finish_targets-requires : goal.finish_targets-requires
finish_targets-requires c =
    let a = c.args in
    let b =
    lent a.ops.now a.spans.now a.globals.now a.builtins.now a.functions.now a.switches.now
    a.targets.now a.lookups.now a.values.now a.places.now a.hints.now a.noted.now a.labels.now in
    let w = (c.type_inv.ws 13).fits in
    let e = c.in_ok-early.ensures b (sized b) in
    let p = c.in_ok-p.ensures in
    let k = c.in_ok-with_entry.ensures b (sized b) in
    let g = lists c.make_lists.new.globals c.make_lists.new.builtins c.make_lists.new.switches c.make_lists.new.targets c.make_lists.new.lookups c.make_lists.new.values in
    let l = c.in_ok-l.ensures in
    let f = c.in_ok-f.ensures in
    targets_then registers registers_most a.ws.now a.used b w e p k {lists' = g} l {ops'' = c.put_function.new.ops} {spans'' = c.put_function.new.spans} {labels'' = c.put_function.new.labels} {functions'' = c.put_function.new.functions} f

pub returns : goal.returns
returns c =
    let a = c.args in
    let b =
    lent a.ops.now a.spans.now a.globals.now a.builtins.now a.functions.now a.switches.now
    a.targets.now a.lookups.now a.values.now a.places.now a.hints.now a.noted.now a.labels.now in
    let w = (c.type_inv.ws 13).fits in
    let e = c.in_ok-early.ensures b (sized b) in
    let p = c.in_ok-p.ensures in
    let k = c.in_ok-with_entry.ensures b (sized b) in
    let g = lists c.make_lists.new.globals c.make_lists.new.builtins c.make_lists.new.switches c.make_lists.new.targets c.make_lists.new.lookups c.make_lists.new.values in
    let l = c.in_ok-l.ensures in
    let f = c.in_ok-f.ensures in
    attempted registers registers_most a.ws.now a.used b w e p k {lists' = g} l {ops'' = c.put_function.new.ops} {spans'' = c.put_function.new.spans} {labels'' = c.put_function.new.labels} {functions'' = c.put_function.new.functions} f c.finish_targets.ensures
