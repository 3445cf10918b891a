-- A function's own entry in the function table, and what stands in the buffers with it.
use Rattle.std.specs.Prelude.{◌≡◌, ℕ, ◌+◌, ◌≤◌, ◌<◌, List, Result, IfOk, OnErr, leb, length, get_or, take, set}
use Rattle.std.proofs.lemmas.List.Edits.{sets}
use Rattle.base.specs.Choice.{pick}
use Rattle.base.specs.Buffers.{zero_from}
use Rattle.base.specs.Emission.{Out}
use Rattle.refusal.specs.declared.Refusal.{Refusal}
use Rattle.refusal.specs.Numbers.{number_for}
use Rattle.program.specs.Functions.{function_at, bytecode}
use Rattle.input.specs.Layout.{function_id, values}
use Rattle.lower.specs.Operands.{place_at}
use Rattle.placing.specs.declared.Placed.{Placed}
use Rattle.lists.specs.declared.Used.{Used}
use Rattle.used.specs.Pens.{op_room}

-- it is the pc that the function starts at
abbrev pub functions_after : List ℕ → List ℕ → Used → List ℕ
functions_after ws functions u = set functions (function_id ws) (function_at bytecode u.ops)

-- ---- what the code needs and leaves

-- the function's places, one for each value, and slots and registers behind them
pub record PlacesReady (ws places noted : List ℕ) (p : Placed) : Type 0 where
  pub places_there : values ws ≤ length places
  pub noted_there : values ws ≤ length noted
  pub places_low : (v : ℕ) → place_at (take (values ws) places) v + 62 < 4294967296
  pub slots_few : p.slots ≤ 128
  pub top_low : p.top ≤ 64

-- put: the buffers start with the ops and spans of `out` and are else as they were
pub record Put (out : Out) (functions' : List ℕ) (l : Used) (ops spans ops'' spans'' labels'' functions'' : List ℕ) (u : Used) : Type 0 where
  pub used_is : u
      ≡ record {
        ops = length out.ops;
        globals = l.globals;
        builtins = l.builtins;
        switches = l.switches;
        targets = l.targets;
        lookups = l.lookups;
        values = l.values;
      }
  pub ops_is : ops'' ≡ sets ops 0 out.ops
  pub spans_is : spans'' ≡ sets spans 0 out.spans
  pub labels_is : labels'' ≡ out.labels
  pub labels_low : (t : ℕ) → get_or labels'' t 0 < 4294967296
  pub functions_is : functions'' ≡ functions'

-- not put: what stands before the used length is kept, and so is the function table
pub record NotPut (u : Used) (ops spans functions ops'' spans'' functions'' : List ℕ) : Type 0 where
  pub ops_kept : zero_from ops'' u.ops ≡ zero_from ops u.ops
  pub spans_kept : zero_from spans'' u.ops ≡ zero_from spans u.ops
  pub functions_kept : functions'' ≡ functions

-- functions' is the table with the function's entry
pub record Assembled (out : Out) (u l : Used) (ops spans functions functions' ops'' spans'' labels'' functions'' : List ℕ) (r : Result Used Refusal) : Type 0 where
  pub number_is : number_for r ≡ pick (leb (length out.ops) (op_room ops spans)) 0 9
  pub put : IfOk r (λ l'. Put out functions' l ops spans ops'' spans'' labels'' functions'' l')
  pub not_put : OnErr r (NotPut u ops spans functions ops'' spans'' functions'')
