-- One function's ops behind those of the program: its frame, its body, its labels.
use Rattle.std.specs.Prelude.{ℕ, ◌≤◌, ◌<◌, List, length, take, replicate}
use Rattle.base.specs.Emission.{Out}
use Rattle.input.specs.Layout.{function_id, function_span}
use Rattle.input.specs.Records.{term_kind}
use Rattle.ready.specs.Ready.{Live, InstrOf, Ready}
use Rattle.instrs.specs.Instrs.{Env}
use Rattle.body.specs.Body.{body_ops}
use Rattle.instrs.specs.Needs.{InstrReady, Interned}
use Rattle.frame.specs.Frames.{frame_regs, framed}
use Rattle.lists.specs.declared.Used.{Used}
use Rattle.used.specs.Pens.{last_of, op_room}

-- before its first op: the program so far, labels zero, the function's span
abbrev pub start_out : List ℕ → List ℕ → List ℕ → List ℕ → Used → Out
start_out ws ops spans labels u =
    record {
      ops = take u.ops ops;
      spans = take u.ops spans;
      labels = replicate (length labels) 0;
      last = last_of ops u.ops;
      span = function_span ws;
    }

-- after its last, with so many slots made and general registers used below `top`
unfoldable pub function_out : ℕ → Env → Used → ℕ → ℕ → Out → Out
function_out n env u top slots =
    framed (frame_regs n (function_id env.ws) top slots) (function_span env.ws) (body_ops n env u.switches u.lookups)

-- ---- what the code needs and leaves

-- a function's words
pub record Lowerable (ws : List ℕ) : Type 0 where
  pub ready : Ready ws
  pub instrs : (b i : ℕ) → InstrOf ws b i → InstrReady ws i
  pub terms : (b : ℕ) → Live ws b → term_kind ws b < 8

-- the program: how much of it was used, and how many globals and builtins it has now
pub record ProgramReady (ws functions ops spans globals builtins : List ℕ) (u l : Used) : Type 0 where
  pub entry_there : function_id ws < length functions
  pub ops_room : u.ops ≤ op_room ops spans
  pub switches_few : u.switches ≤ 65534
  pub lookups_few : u.lookups ≤ 65534
  pub interned : Interned globals l.globals builtins l.builtins
