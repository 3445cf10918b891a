-- One move on the machine: the destination holds what the source held, and no other place but TMP changes.
use mathlib.Core.Path.{◌≡◌, refl, ◌∙◌}
use mathlib.Core.Logic.{◌≢◌}
use Prim.Native.Nat.{ℕ, ◌+◌, ◌-◌, ◌≤◌, ◌<◌}
use mathlib.Core.Bool.{Bool, true, false}
use native.Mathlib.Omega.{arith}
use borrow.Author.Tests.{ltb-true, ltb-false, ne_eqb}
use lib.ListN.{length, get_or, set, length-set}
use lib.Seq.{get_or-set_same, get_or-set_other}
use lib.Dec.{ltb}
use Rattle.base.specs.Choice.{pick}
use Rattle.place.specs.Places.{slots_from}
use Rattle.machine.specs.Machine.{State, World, upd, gets, run, holds}
use Rattle.machine.proofs.Machine.{upd_same, holds-reg, holds-slot}
use Rattle.moves.specs.Moves.{move_ops}
use Rattle.moves.proofs.Steps.{Copied}

-- after a register is set
got_reg : (st : State) (r v : ℕ) → r < slots_from → holds (gets r v st) r ≡ v
got_reg st r v h = holds-reg (gets r v st) r h ∙ upd_same st.regs r v r refl

got_other : (st : State) (r v p : ℕ) → p ≢ r → holds (gets r v st) p ≡ holds st p
got_other st r v p n = rw (ne_eqb p r n)

-- after a slot is
abbrev stored : ℕ → ℕ → State → State
stored d v st = record { regs = st.regs; stack = set st.stack (d - slots_from) v }

stored-slot : (st : State) (d v : ℕ) → slots_from ≤ d → d < slots_from + length st.stack → holds (stored d v st) d ≡ v
stored-slot st d v h f = holds-slot (stored d v st) d h ∙ get_or-set_same st.stack (d - slots_from) v 0 (omega arith)

stored_other : (st : State) (d v p : ℕ) → slots_from ≤ d → p ≢ d → holds (stored d v st) p ≡ holds st p
stored_other st d v p h n = go (ltb p slots_from) refl
  where
    go : (b : Bool) → ltb p slots_from ≡ b
        → pick b (st.regs p) (get_or (set st.stack (d - slots_from) v) (p - slots_from) 0) ≡ pick b (st.regs p) (get_or st.stack (p - slots_from) 0)
    go true e = refl
    go false e = get_or-set_other st.stack (d - slots_from) (p - slots_from) v 0 (omega (arith, ltb-false p slots_from e))

-- one move does what it should, and the stack's height stays
pub move-copies : (w : World) (tmp s d : ℕ) (st : State) → tmp < slots_from → d < slots_from + length st.stack
    → Copied tmp s d (holds st) (holds (run w (move_ops tmp s d) st)) × (length (run w (move_ops tmp s d) st).stack ≡ length st.stack)
move-copies w tmp s d st ht fd = go (ltb s slots_from) refl (ltb d slots_from) refl
  where
    go : (b : Bool) → ltb s slots_from ≡ b → (b' : Bool) → ltb d slots_from ≡ b'
        → Copied tmp s d (holds st) (holds (run w (move_ops tmp s d) st)) × (length (run w (move_ops tmp s d) st).stack ≡ length st.stack)
    go true e true e' =
        rw (e, e') (
          record {
            arrived = got_reg st d (st.regs s) (ltb-true d slots_from e') ∙ rw e;
            kept = λ p n m. got_other st d (st.regs s) p n;
          },
          refl,
        )
    go true e false e' =
        rw (e, e') (
          record {
            arrived = stored-slot st d (st.regs s) (ltb-false d slots_from e') fd ∙ rw e;
            kept = λ p n m. stored_other st d (st.regs s) p (ltb-false d slots_from e') n;
          },
          length-set st.stack (d - slots_from) (st.regs s),
        )
    go false e true e' =
        rw (e, e') (
          record {
            arrived = got_reg st d (get_or st.stack (s - slots_from) 0) (ltb-true d slots_from e') ∙ rw e;
            kept = λ p n m. got_other st d (get_or st.stack (s - slots_from) 0) p n;
          },
          refl,
        )
    go false e false e' =
        let v : ℕ = get_or st.stack (s - slots_from) 0 in
        let x : ℕ = upd st.regs tmp v tmp in
        rw (e, e') (
          record {
            arrived = stored-slot (gets tmp v st) d x (ltb-false d slots_from e') fd ∙ upd_same st.regs tmp v tmp refl ∙ rw e;
            kept = λ p n m. stored_other (gets tmp v st) d x p (ltb-false d slots_from e') n ∙ got_other st tmp v p m;
          },
          length-set st.stack (d - slots_from) x,
        )
