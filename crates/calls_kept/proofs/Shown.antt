-- What a call keeps, said by the places and the ops that a function turns out to have.
use mathlib.Core.Path.{◌≡◌, ap, ◌∙◌, subst}
use mathlib.Core.Logic.{◌≢◌}
use Prim.Native.Nat.{ℕ, ◌+◌, ◌<◌}
use mathlib.Core.List.{List}
use lib.ListN.{length, get_or}
use Rattle.place.specs.Places.{slots_from}
use Rattle.machine.specs.Machine.{State, World, run_words, holds}
use Rattle.machine.specs.Calls.{Kind, Keeps}
use Rattle.input.specs.Records.{operands_of}
use Rattle.rows.specs.Rows.{InUse}
use Rattle.assign.specs.Walk.{assigned}
use Rattle.lower.specs.Operands.{place_at}
use Rattle.calls.specs.Calls.{pushed_for}
use Rattle.calls_proof.specs.CallsRight.{before_call, after_call}
use Rattle.calls_kept.specs.CallsKept.{ops_before, ops_after, CallKept}

-- the places of the values, and the registers noted for v, of a function on a machine with n registers
pub record Walked (n : ℕ) (ws : List ℕ) (v : ℕ) (map : List ℕ) (mask : ℕ) : Type 0 where
  pub places : (assigned n ws).map ≡ map
  pub noted : get_or (assigned n ws).noted v 0 ≡ mask

-- the ops that come of them
pub record Emits (n : ℕ) (ws : List ℕ) (kind : Kind) (i v : ℕ) (map : List ℕ) (mask : ℕ) (before after : List ℕ) : Type 0 where
  pub ahead : before_call n map (pushed_for kind mask (length (operands_of ws i))) (operands_of ws i) ≡ before
  pub behind : after_call n (pushed_for kind mask (length (operands_of ws i))) (place_at map v) ≡ after

pub record Shown (ws map before after : List ℕ) (i v r : ℕ) (w : World) (st st'' : State) : Type 0 where
  pub arrived : (k : ℕ) → k < length (operands_of ws i) → (run_words w before st).regs k ≡ holds st (place_at map (get_or (operands_of ws i) k 0))
  pub result : holds (run_words w after st'') (place_at map v) ≡ st''.regs 0
  pub in_use : (x : ℕ) → InUse ws x r → x ≢ v → holds (run_words w after st'') (place_at map x) ≡ holds st (place_at map x)
  pub slot_kept : (k : ℕ) → slots_from + k ≢ place_at map v → get_or (run_words w after st'').stack k 0 ≡ get_or st.stack k 0
  pub height_kept : length (run_words w after st'').stack ≡ length st.stack

module _ {n : ℕ} {ws : List ℕ} {kind : Kind} {i v : ℕ} {map : List ℕ} {mask : ℕ} {before after : List ℕ}
    (k : Walked n ws v map mask) (o : Emits n ws kind i v map mask before after) where
  pub ops-before : ops_before n ws kind i v ≡ before
  ops-before =
      ap (λ (m : List ℕ). before_call n m (pushed_for kind (get_or (assigned n ws).noted v 0) (length (operands_of ws i))) (operands_of ws i)) k.places
      ∙ ap (λ (x : ℕ). before_call n map (pushed_for kind x (length (operands_of ws i))) (operands_of ws i)) k.noted ∙ o.ahead

  pub ops-after : ops_after n ws kind i v ≡ after
  ops-after =
      ap (λ (m : List ℕ). after_call n (pushed_for kind (get_or (assigned n ws).noted v 0) (length (operands_of ws i))) (place_at m v)) k.places
      ∙ ap (λ (x : ℕ). after_call n (pushed_for kind x (length (operands_of ws i))) (place_at map v)) k.noted ∙ o.behind

  module _ (r : ℕ) (w : World) (st st'' : State) where
    pub shown : CallKept n ws kind i v r w st st'' → Shown ws map before after i v r w st st''
    shown c =
        subst (λ (l : List ℕ). Shown ws map before l i v r w st st'') ops-after
        (subst (λ (l : List ℕ). Shown ws map l (ops_after n ws kind i v) i v r w st st'') ops-before
        (subst (λ (m : List ℕ). Shown ws m (ops_before n ws kind i v) (ops_after n ws kind i v) i v r w st st'') k.places
        (record { arrived = c.arrived; result = c.result; in_use = c.in_use; slot_kept = c.slot_kept; height_kept = c.height_kept })))

    pub keeps_so : Keeps n kind (length (operands_of ws i)) (run_words w before st) st''
        → Keeps n kind (length (operands_of ws i)) (run_words w (ops_before n ws kind i v) st) st''
    keeps_so h = rw ops-before h
