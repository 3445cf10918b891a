-- Demand 3 of an edge, as a statement about what the rule emits: each read parameter's place gets what its argument's place held, and nothing
-- else changes but SCRATCH and TMP.
use Rattle.std.specs.Prelude.{◌≡◌, ◌≢◌, false, ℕ, ◌+◌, ◌≤◌, ◌<◌, List, length, get_or}
use Rattle.base.specs.Lists.{among}
use Rattle.base.specs.Emission.{Out, emit_all}
use Rattle.place.specs.Registers.{scratch_of, tmp_of}
use Rattle.place.specs.Places.{slots_from}
use Rattle.machine.specs.Machine.{State, World, run_words, holds}
use Rattle.moves.specs.Moves.{move_words}
use Rattle.input.specs.Records.{params_of, arguments_of, edge_target}
use Rattle.fit.specs.Intervals.{unread}
use Rattle.assign.specs.Walk.{assigned, slots_made}
use Rattle.sharing.specs.Sharing.{Given}
use Rattle.ready.specs.Ready.{EdgeOf}
use Rattle.lower.specs.Operands.{place_at}
use Rattle.edges.specs.Pairs.{differing_sources, differing_destinations}
use Rattle.edges.specs.Edges.{edge_sources, edge_destinations, jump_to, edge}

-- the moves of an edge
unfoldable pub edge_words : ℕ → List ℕ → List ℕ → ℕ → List ℕ
edge_words n ws map e =
    move_words n (differing_sources (edge_sources ws map e) (edge_destinations ws map e)) (differing_destinations (edge_sources ws map e) (edge_destinations ws map e))

-- the parameter and the argument at a place of the edge's lists
abbrev pub parameter : List ℕ → ℕ → ℕ → ℕ
parameter ws e i = get_or (params_of ws (edge_target ws e)) i 0

abbrev pub argument : List ℕ → ℕ → ℕ → ℕ
argument ws e i = get_or (arguments_of ws e) i 0

-- from st to st', over the moves of edge e
pub record EdgeMoved (n : ℕ) (ws map : List ℕ) (e : ℕ) (st st' : State) : Type 0 where
  pub arrived : (i : ℕ) → i < length (params_of ws (edge_target ws e)) → unread ws (parameter ws e i) ≡ false
      → holds st' (place_at map (parameter ws e i)) ≡ holds st (place_at map (argument ws e i))
  pub register_kept : (r : ℕ) → r < slots_from → r ≢ scratch_of n → r ≢ tmp_of n → among r (edge_destinations ws map e) ≡ false → st'.regs r ≡ st.regs r
  pub slot_kept : (k : ℕ) → among (slots_from + k) (edge_destinations ws map e) ≡ false → get_or st'.stack k 0 ≡ get_or st.stack k 0
  pub height_kept : length st'.stack ≡ length st.stack

pub record EdgesRight (n : ℕ) : Type 0 where
  -- the rule emits these moves, then Jmp or nothing
  pub emits : (ws map : List ℕ) (next e : ℕ) (o : Out) → edge n ws map next e o ≡ jump_to next (edge_target ws e) (emit_all (edge_words n ws map e) o)
  -- of every function that passes checks 1 to 5 and gets places, every live block and each of its edges, from every state of the machine with
  -- at least the function's slots on the stack
  pub right : (ws : List ℕ) → Given n ws → (b e : ℕ) → EdgeOf ws b e → (w : World) (st : State) → slots_made n ws ≤ length st.stack
      → EdgeMoved n ws (assigned n ws).map e st (run_words w (edge_words n ws (assigned n ws).map e) st)

abbrev pub EdgesTheorem : Type 0
EdgesTheorem = (n : ℕ) → 22 ≤ n → n ≤ 64 → EdgesRight n
