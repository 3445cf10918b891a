-- Each test that led to a return is the next choice of `unfit_rows`. Where refusal 4 does not apply the table holds every value's row.
use mathlib.Core.Bool.{true}
use mathlib.Core.Logic.{inr}
use mathlib.Core.Path.{◌≡◌, sym, ◌∙◌}
use Prim.Native.Nat.{ℕ, ◌<◌}
use mathlib.Core.List.{List}
use Rattle.input.specs.Layout.{blocks}
use Rattle.rows.specs.Rows.{defs_of}
use Rattle.shape.specs.Shape.{shape_ok}
use Rattle.fit.specs.Callees.{callees_ok}
use Rattle.fit.specs.Intervals.{once_ok, intervals_ok}
use Rattle.fit.specs.Tabled.{Tabled}
use Rattle.judge.specs.Passes.{Placed}
use Rattle.judge.proofs.Lowest.{bad_shape, double_def, bad_interval, unknown_func, bad_key, no_refusal}
use Rattle.judge.proofs.Rooms.{rows-filled}
use Rattle.judge.proofs.Shapes.{shape_given, rows-placed}
use Rattle.judge.proofs.Which.{pass_intervals, pass_callees, pass-keys}
use Rattle.judge.proofs.judge_rows.Goals as goal
use Rattle.judge.proofs.judge_rows.Goals.{Else-not-shape_ok, Else-not-define_all, Else-not-pass, Else-not-pass-2}

-- in shape: the instructions and parameters of each live block are there
placed : (c : Else-not-shape_ok) (b : ℕ) → b < blocks c.args.ws.now → Placed c.args.ws.now b
placed c = rows-placed c.args.ws.now (shape_given c.args.ws.now (sym c.shape_ok.ensures ∙ c.if-not-shape_ok.false)).rows

-- what is known where each value is defined once
record Once (ws table : List ℕ) : Type 0 where
  shape : shape_ok ws ≡ true
  once : once_ok ws ≡ true
  tabled : Tabled table (defs_of ws)

defined : (c : Else-not-define_all) → Once c.args.ws.now c.define_all.new.table
defined c =
    let ws = c.args.ws.now in
    let call = c.define_all in
    let shape = sym c.shape_ok.ensures ∙ c.if-not-shape_ok.false in
    let filled = rows-filled ws c.args.table.now call.new.table call.result (shape_given ws shape).rows c.requires.1 c.requires.2 call.ensures in
    let once = sym filled.fresh_is ∙ c.if-not-define_all.false in
    record { shape = shape; once = once; tabled = filled.tabled once }

-- the tests of the passes that succeeded, given that
in_time : (c : Else-not-pass) → Once c.args.ws.now c.define_all.new.table → intervals_ok c.args.ws.now ≡ true
in_time c k = sym (c.pass.ensures (defs_of c.args.ws.now) k.tabled ∙ pass_intervals c.args.ws.now c.args.functions.now) ∙ c.if-not-pass.false

known : (c : Else-not-pass-2) → Once c.args.ws.now c.define_all.new.table → callees_ok c.args.ws.now c.args.functions.now ≡ true
known c k =
    let ws = c.args.ws.now in
    sym (c.pass-2.ensures (defs_of ws) k.tabled ∙ pass_callees ws c.args.functions.now (defs_of ws)) ∙ c.if-not-pass-2.false

pub returns-then-not-shape_ok : goal.returns-then-not-shape_ok
returns-then-not-shape_ok c =
    bad_shape c.args.ws.now c.args.functions.now (sym c.shape_ok.ensures ∙ c.if-not-shape_ok.true)

pub define_all-requires : goal.define_all-requires
define_all-requires c = (c.requires.0, placed (goal.at.define_all-requires c).Else-not-shape_ok)

pub returns-then-not-define_all : goal.returns-then-not-define_all
returns-then-not-define_all c =
    let ws = c.args.ws.now in
    let call = c.define_all in
    let shape = sym c.shape_ok.ensures ∙ c.if-not-shape_ok.false in
    let filled = rows-filled ws c.args.table.now call.new.table call.result (shape_given ws shape).rows c.requires.1 c.requires.2 call.ensures in
    double_def ws c.args.functions.now shape (sym filled.fresh_is ∙ c.if-not-define_all.true)

pub pass-requires : goal.pass-requires
pass-requires c = (c.requires.0, inr (placed (goal.at.pass-requires c).Else-not-shape_ok))

pub returns-then-not-pass : goal.returns-then-not-pass
returns-then-not-pass c =
    let ws = c.args.ws.now in
    let k = defined (goal.at.returns-then-not-pass c).Else-not-define_all in
    bad_interval ws c.args.functions.now k.shape k.once
    (sym (c.pass.ensures (defs_of ws) k.tabled ∙ pass_intervals ws c.args.functions.now) ∙ c.if-not-pass.true)

pub pass-requires-2 : goal.pass-requires-2
pass-requires-2 c = (c.requires.0, inr (placed (goal.at.pass-requires-2 c).Else-not-shape_ok))

pub returns-then-not-pass-2 : goal.returns-then-not-pass-2
returns-then-not-pass-2 c =
    let ws = c.args.ws.now in
    let p = goal.at.returns-then-not-pass-2 c in
    let k = defined p.Else-not-define_all in
    unknown_func ws c.args.functions.now k.shape k.once (in_time p.Else-not-pass k)
    (sym (c.pass-2.ensures (defs_of ws) k.tabled ∙ pass_callees ws c.args.functions.now (defs_of ws)) ∙ c.if-not-pass-2.true)

pub pass-requires-3 : goal.pass-requires-3
pass-requires-3 c = (c.requires.0, inr (placed (goal.at.pass-requires-3 c).Else-not-shape_ok))

pub returns-then-not-pass-3 : goal.returns-then-not-pass-3
returns-then-not-pass-3 c =
    let ws = c.args.ws.now in
    let p = goal.at.returns-then-not-pass-3 c in
    let k = defined p.Else-not-define_all in
    bad_key ws c.args.functions.now k.shape k.once (in_time p.Else-not-pass k) (known p.Else-not-pass-2 k)
    (sym (c.pass-3.ensures (defs_of ws) k.tabled ∙ pass-keys ws c.args.functions.now (defs_of ws)) ∙ c.if-not-pass-3.true)

pub returns : goal.returns
returns c =
    let ws = c.args.ws.now in
    let p = goal.at.returns c in
    let k = defined p.Else-not-define_all in
    no_refusal ws c.args.functions.now k.shape k.once (in_time p.Else-not-pass k) (known p.Else-not-pass-2 k)
    (sym (c.pass-3.ensures (defs_of ws) k.tabled ∙ pass-keys ws c.args.functions.now (defs_of ws)) ∙ c.if-not-pass-3.false)
