-- The used lengths are read, and stored again.
use Rattle.place.specs.Registers.{registers}
use Rattle.first_checks.specs.Buffers.{lent}
use Rattle.agnulfrosc.proofs.Entries.{compiled-then}
use Rattle.agnulfrosc.proofs.agnulfrosc_compile.Goals as goal

pub shape_of-functions : goal.shape_of-functions
shape_of-functions c = c.compile-r.auto.functions

pub shape_of-ops : goal.shape_of-ops
shape_of-ops c = c.compile-r.auto.ops

pub shape_of-spans : goal.shape_of-spans
shape_of-spans c = c.compile-r.auto.spans

pub shape_of-globals : goal.shape_of-globals
shape_of-globals c = c.compile-r.auto.globals

pub shape_of-builtins : goal.shape_of-builtins
shape_of-builtins c = c.compile-r.auto.builtins

pub shape_of-switches : goal.shape_of-switches
shape_of-switches c = c.compile-r.auto.switches

pub shape_of-targets : goal.shape_of-targets
shape_of-targets c = c.compile-r.auto.targets

pub shape_of-lookups : goal.shape_of-lookups
shape_of-lookups c = c.compile-r.auto.lookups

pub shape_of-values : goal.shape_of-values
shape_of-values c = c.compile-r.auto.values

pub shape_of-places : goal.shape_of-places
shape_of-places c = c.compile-r.auto.places

pub shape_of-hints : goal.shape_of-hints
shape_of-hints c = c.compile-r.auto.hints

pub shape_of-noted : goal.shape_of-noted
shape_of-noted c = c.compile-r.auto.noted

pub shape_of-labels : goal.shape_of-labels
shape_of-labels c = c.compile-r.auto.labels

pub shape_of-used : goal.shape_of-used
shape_of-used c = c.answer_compiled.auto.used

pub returns : goal.returns
returns c =
    let a = c.args in
    let b =
    lent a.ops.now a.spans.now a.globals.now a.builtins.now a.functions.now a.switches.now a.targets.now a.lookups.now a.values.now a.places.now a.hints.now a.noted.now a.labels.now in
    compiled-then registers a.words.now a.used.now b c.compile-r.result _ c.used_in-before.ensures _ c.compile-r.ensures
    _ c.answer_compiled.ensures.1 _ c.answer_compiled.ensures.0
