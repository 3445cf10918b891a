-- The pairs that are left answer for all of them.
use mathlib.Core.Path.{sym, ◌∙◌}
use Rattle.edges.proofs.Moved.{some-here, some-later, some_none}
use Rattle.edges.proofs.any_moved.Goals as goal

pub returns-then-is_moved : goal.returns-then-is_moved
returns-then-is_moved c =
    let a = c.args in
    let l = c.loop-j in
    some-here a.vs.ws.now a.vs.map.now a.at a.to a.n l.j c.loop-j-test.true
    (sym (rw (c.pool_at-a.ensures, c.pool_at-p.ensures) at c.is_moved.ensures) ∙ c.if-is_moved.true) l.invariant

pub loop-j-preserved : goal.loop-j-preserved
loop-j-preserved c =
    let a = c.args in
    let l = c.loop-j in
    some-later a.vs.ws.now a.vs.map.now a.at a.to a.n l.j c.loop-j-test.true
    (sym (rw (c.pool_at-a.ensures, c.pool_at-p.ensures) at c.is_moved.ensures) ∙ c.if-is_moved.false) l.invariant

pub returns : goal.returns
returns c =
    let a = c.args in
    let l = c.loop-j in
    some_none a.vs.ws.now a.vs.map.now a.at a.to a.n l.j c.loop-j-test.false l.invariant
