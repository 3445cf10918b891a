-- Demand 3 of the calls of a function with the places that it gets: arguments arrive, the result arrives, and every other value that is in use
-- past the call is in its place what it was before the first push.
use Rattle.std.specs.Prelude.{◌≡◌, ◌≢◌, ℕ, suc, ◌+◌, ◌≤◌, ◌<◌, List, length, get_or}
use Rattle.place.specs.Places.{slots_from}
use Rattle.machine.specs.Machine.{State, World, run_words, holds}
use Rattle.machine.specs.Calls.{Kind, function, builtin, Keeps}
use Rattle.input.specs.Records.{destination, operands_of, instr_kind, call, sys}
use Rattle.rows.specs.Rows.{instr, InUse}
use Rattle.assign.specs.Walk.{assigned, slots_made}
use Rattle.sharing.specs.Sharing.{Given, RowIs}
use Rattle.ready.specs.Ready.{InstrOf}
use Rattle.lower.specs.Operands.{place_at}
use Rattle.calls.specs.Calls.{pushed_for}
use Rattle.calls_proof.specs.CallsRight.{before_call, after_call}

-- Call calls a function, Sys a builtin
pub data Calls (ws : List ℕ) (i : ℕ) : Kind → Type 0 where
  calls_function : instr_kind ws i ≡ call → Calls ws i function
  calls_builtin : instr_kind ws i ≡ sys → Calls ws i builtin

-- the place of a value, and what an instruction that calls pushes
abbrev pub place_in : ℕ → List ℕ → ℕ → ℕ
place_in n ws v = place_at (assigned n ws).map v

abbrev pub pushes_at : ℕ → List ℕ → Kind → ℕ → ℕ → List ℕ
pushes_at n ws kind i v = pushed_for kind (get_or (assigned n ws).noted v 0) (length (operands_of ws i))

-- its ops before the call op, and after it
abbrev pub ops_before : ℕ → List ℕ → Kind → ℕ → ℕ → List ℕ
ops_before n ws kind i v = before_call n (assigned n ws).map (pushes_at n ws kind i v) (operands_of ws i)

abbrev pub ops_after : ℕ → List ℕ → Kind → ℕ → ℕ → List ℕ
ops_after n ws kind i v = after_call n (pushes_at n ws kind i v) (place_in n ws v)

-- Instruction i at row r, which defines v: from st, before the first push, to the call op; from st'', which the called code hands back, to the end
pub record CallKept (n : ℕ) (ws : List ℕ) (kind : Kind) (i v r : ℕ) (w : World) (st st'' : State) : Type 0 where
  pub arrived : (k : ℕ) → k < length (operands_of ws i)
      → (run_words w (ops_before n ws kind i v) st).regs k ≡ holds st (place_in n ws (get_or (operands_of ws i) k 0))
  pub result : holds (run_words w (ops_after n ws kind i v) st'') (place_in n ws v) ≡ st''.regs 0
  pub in_use : (x : ℕ) → InUse ws x r → x ≢ v → holds (run_words w (ops_after n ws kind i v) st'') (place_in n ws x) ≡ holds st (place_in n ws x)
  pub slot_kept : (k : ℕ) → slots_from + k ≢ place_in n ws v
      → get_or (run_words w (ops_after n ws kind i v) st'').stack k 0 ≡ get_or st.stack k 0
  pub height_kept : length (run_words w (ops_after n ws kind i v) st'').stack ≡ length st.stack

-- of every function that passes checks 1 to 5 and gets places, every Call and Sys of a live block, from every state with at least the function's
-- slots on the stack, and every state that the called code may hand back
abbrev pub CallsKeptTheorem : Type 0
CallsKeptTheorem =
    (n : ℕ) → 22 ≤ n → n ≤ 64 → (ws : List ℕ) → Given n ws → (b i v r : ℕ) → InstrOf ws b i → RowIs ws r (instr i) → destination ws i ≡ suc v
    → (kind : Kind) → Calls ws i kind → (w : World) (st st'' : State) → slots_made n ws ≤ length st.stack
    → Keeps n kind (length (operands_of ws i)) (run_words w (ops_before n ws kind i v) st) st''
    → CallKept n ws kind i v r w st st''
