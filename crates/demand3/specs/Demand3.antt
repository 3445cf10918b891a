-- Demand 3 of the request, of what `compile` emits: of every function that it answers Done for, on a machine with n registers, n from 22 to 64.
use Rattle.std.specs.Prelude.{◌≡◌, ◌≢◌, ℕ, suc, ◌+◌, ◌*◌, ◌≤◌, ◌<◌, List, ◌∷◌, ◌++◌, length, get_or, take}
use Rattle.op.specs.Words.{word}
use Rattle.op.specs.Ops as op
use Rattle.machine.specs.Machine.{State, World, run_words, holds}
use Rattle.machine.specs.Calls.{Kind, function, builtin, Keeps}
use Rattle.program.specs.Functions.{bytecode, function_at}
use Rattle.input.specs.Layout.{function_id, values}
use Rattle.input.specs.Records.{first_instr, instr_count, destination, operands_of, instr_x, term_kind, term_operands, tail_call}
use Rattle.rows.specs.Rows.{instr, InUse}
use Rattle.assign.specs.Walk.{slots_made, top_used}
use Rattle.sharing.specs.Sharing.{RowIs}
use Rattle.ready.specs.Ready.{Live, EdgeOf}
use Rattle.lower.specs.Operands.{place_at}
use Rattle.calls.specs.Calls.{called_as}
use Rattle.interning.specs.Interning.{builtin_of}
use Rattle.frame.specs.Frames.{saved_up_to, frame_regs}
use Rattle.frame.specs.FramesKept.{FrameKept}
use Rattle.edges_proof.specs.EdgesRight.{edge_words, EdgeMoved}
use Rattle.calls_proof.specs.CallsRight.{shuffle_words}
use Rattle.calls_kept.specs.CallsKept.{Calls, ops_before, ops_after, CallKept}
use Rattle.layout.specs.Layout.{Stands, BlockAt, EntryAt}
use Rattle.lists.specs.declared.Used.{Used}
use Rattle.first_checks.specs.Buffers.{Buffers}
use Rattle.compile.specs.Compile.{places_of, new_lists, new_functions, env_of, final_out, compiled}

-- what compiling leaves: the ops up to the new used length, the slots and the heads of the switch tables, the heads of the lookup tables, the
-- builtins, the places of the values
abbrev pub ops_of : ℕ → List ℕ → Buffers → Used → List ℕ
ops_of n ws b u = take (compiled n ws b u).used.ops (compiled n ws b u).buffers.ops

abbrev pub slots_of : ℕ → List ℕ → Buffers → Used → List ℕ
slots_of n ws b u = take (compiled n ws b u).used.targets (compiled n ws b u).buffers.targets

abbrev pub heads_of : ℕ → List ℕ → Buffers → Used → List ℕ
heads_of n ws b u = take (3 * (compiled n ws b u).used.switches) (compiled n ws b u).buffers.switches

abbrev pub lookups_of : ℕ → List ℕ → Buffers → Used → List ℕ
lookups_of n ws b u = take (5 * (compiled n ws b u).used.lookups) (compiled n ws b u).buffers.lookups

abbrev pub builtins_of : ℕ → List ℕ → Buffers → Used → List ℕ
builtins_of n ws b u = take (compiled n ws b u).used.builtins (compiled n ws b u).buffers.builtins

abbrev pub places_left : ℕ → List ℕ → Buffers → Used → List ℕ
places_left n ws b u = take (values ws) (compiled n ws b u).buffers.places

-- the registers that the function's frame saves, with one pushed for each slot; none, no frame
abbrev pub saved_by : ℕ → List ℕ → List ℕ
saved_by n ws = frame_regs n (function_id ws) (top_used n ws) (slots_made n ws)

-- the call op of instruction i: a Call's by the word of the called function in the table, a Sys's by the number of the builtin
abbrev pub called_op : ℕ → List ℕ → Buffers → Used → Kind → ℕ → ℕ
called_op n ws b u function i = called_as (get_or (new_functions ws b u) (instr_x ws i) 0)
called_op n ws b u builtin i = word (op.sys (builtin_of (instr_x ws i) (new_lists n ws b u).builtins) (length (operands_of ws i)))

-- instruction i, which calls and defines v, from pc to pc': the ops before the call op, the call op, the ops after it
pub record CallAt (n : ℕ) (ws : List ℕ) (b : Buffers) (u : Used) (ops : List ℕ) (kind : Kind) (i v pc pc' : ℕ) : Type 0 where
  pub stands : Stands ops pc (ops_before n ws kind i v ++ (called_op n ws b u kind i ∷ ops_after n ws kind i v))
  pub until : pc + length (ops_before n ws kind i v ++ (called_op n ws b u kind i ∷ ops_after n ws kind i v)) ≡ pc'

-- Every live block stands in the ops, from its first op through its instructions to its terminator, whose edges are entered where BlockAt says;
-- and then:
pub record Right (n : ℕ) (ws : List ℕ) (b : Buffers) (u : Used) : Type 0 where
  -- what is said of `final_out` is said of the ops in the buffer, and of the places, the function table and the builtins in theirs
  pub ops_are : ops_of n ws b u ≡ (final_out n ws b u).ops
  pub places_are : places_left n ws b u ≡ places_of n ws
  pub functions_are : (compiled n ws b u).buffers.functions ≡ new_functions ws b u
  pub builtins_are : builtins_of n ws b u ≡ (new_lists n ws b u).builtins
  pub blocks : (k : ℕ) → Live ws k
      → BlockAt n (env_of n ws b u) (saved_by n ws) (final_out n ws b u) (slots_of n ws b u) (heads_of n ws b u) (lookups_of n ws b u) k
  -- Entry: the function's word in the table names the pc where its prologue stands, and block 0 starts right behind it.
  pub named : get_or (compiled n ws b u).buffers.functions (function_id ws) 0 ≡ function_at bytecode u.ops
  pub entry : EntryAt (saved_by n ws) (final_out n ws b u) u.ops
  -- Frame: the prologue puts the slots on the stack; if the body keeps what lies below them, the epilogue restores the saved registers and the stack.
  pub frame : (w : World) (st : State) → FrameKept n (saved_up_to (function_id ws) (top_used n ws)) (slots_made n ws) (saved_by n ws) w st
  -- Edges: from any state with at least the function's slots on the stack, each read parameter's place gets what its argument's place held, and
  -- nothing else changes but SCRATCH and TMP.
  pub edges : (k e : ℕ) → EdgeOf ws k e → (w : World) (st : State) → slots_made n ws ≤ length st.stack
      → EdgeMoved n ws (places_left n ws b u) e st (run_words w (edge_words n ws (places_left n ws b u) e) st)
  -- Calls: the ops of a Call or Sys stand where its block says, and do what CallKept says.
  pub calls : (k j v : ℕ) (l : Live ws k) → j < instr_count ws k → destination ws (first_instr ws k + j) ≡ suc v → (kind : Kind)
      → Calls ws (first_instr ws k + j) kind
      → CallAt n ws b u (ops_of n ws b u) kind (first_instr ws k + j) v ((blocks k l).at j) ((blocks k l).at (j + 1))
  pub kept : (k j v r : ℕ) → Live ws k → j < instr_count ws k → RowIs ws r (instr (first_instr ws k + j)) → destination ws (first_instr ws k + j) ≡ suc v
      → (kind : Kind) → Calls ws (first_instr ws k + j) kind → (w : World) (st st'' : State) → slots_made n ws ≤ length st.stack
      → Keeps n kind (length (operands_of ws (first_instr ws k + j))) (run_words w (ops_before n ws kind (first_instr ws k + j) v) st) st''
      → CallKept n ws kind (first_instr ws k + j) v r w st st''
  -- Tails: the argument registers get their arguments.
  pub tails : (k : ℕ) → Live ws k → term_kind ws k ≡ tail_call → (w : World) (st : State) → slots_made n ws ≤ length st.stack
      → (i : ℕ) → i < length (term_operands ws k)
      → (run_words w (shuffle_words n (places_left n ws b u) 0 (term_operands ws k)) st).regs i ≡ holds st (place_at (places_left n ws b u) (get_or (term_operands ws k) i 0))
  -- Two values in use at once never share a place.
  pub apart : (v v' r : ℕ) → InUse ws v r → InUse ws v' r → get_or (places_left n ws b u) v 0 ≡ get_or (places_left n ws b u) v' 0 → v ≡ v'
  pub placed : (v r : ℕ) → InUse ws v r → get_or (places_left n ws b u) v 0 ≢ 0

-- the input words are words of 32 bits, as those of every slice that is lent
abbrev pub Words : List ℕ → Type 0
Words ws = (k : ℕ) → get_or ws k 0 < 4294967296

abbrev pub Demand3 : Type 0
Demand3 = (n : ℕ) → 22 ≤ n → n ≤ 64 → (ws : List ℕ) → Words ws → (b : Buffers) (u : Used) → (compiled n ws b u).number ≡ 0 → Right n ws b u
