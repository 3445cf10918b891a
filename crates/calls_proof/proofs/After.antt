-- The ops behind a call op, run from a state whose stack is the one that the pushes left: each register that was pushed holds what it held before,
-- the result's place what register 0 holds, and no other register, no other slot changes.
use mathlib.Core.Path.{◌≡◌, refl, sym, ap, ◌∙◌}
use mathlib.Core.Logic.{◌≢◌}
use Prim.Native.Nat.{ℕ, ◌+◌, ◌-◌, ◌^◌, ◌≤◌, ◌<◌}
use mathlib.Core.List.{List, [], ◌∷◌, ◌++◌, map, reverse}
use mathlib.Core.Bool.{Bool, true, false}
use native.Mathlib.Omega.{arith}
use borrow.Author.Tests.{ltb-true, ltb-false}
use lib.ListN.{length, get_or, set, length-set}
use lib.Seq.{get_or-set_same, get_or-set_other}
use lib.Dec.{ltb}
use Rattle.base.specs.Choice.{pick}
use Rattle.base.specs.Lists.{among}
use Rattle.base.proofs.Numbers.{pick_case, pick-both}
use Rattle.place.specs.Registers.{tmp_of}
use Rattle.place.specs.Places.{slots_from}
use Rattle.op.specs.Words.{word}
use Rattle.op.specs.Ops.{mov, store_slot}
use Rattle.machine.specs.Machine.{State, World, upd, gets, run, run_words, holds}
use Rattle.machine.specs.Stack.{pushes_of, pops_of}
use Rattle.machine.proofs.Machine.{upd_same, upd_other}
use Rattle.machine.proofs.Stack.{Undone, pops_undo}
use Rattle.packs.proofs.Words.{Bytes, words_pops}
use Rattle.moves.specs.AtOnce.{place_ok}
use Rattle.moves.proofs.Checked.{place-within}
use Rattle.lower.specs.Operands.{dest_reg}
use Rattle.calls_proof.specs.CallsRight.{after_call}
use Rattle.calls_proof.proofs.Words.{words_append, words_none, words_op}

-- the register that the result goes to first
pub landing_reg : (n dst : ℕ) → ltb dst slots_from ≡ true → dest_reg n dst ≡ dst
unfolding dest_reg
landing_reg n dst e = rw e

pub landing_slot : (n dst : ℕ) → ltb dst slots_from ≡ false → dest_reg n dst ≡ tmp_of n
unfolding dest_reg
landing_slot n dst e = rw e

-- the store of a result in a slot
abbrev store_words : ℕ → ℕ → List ℕ
store_words n dst = pick (ltb dst slots_from) [] (word (store_slot (dst - slots_from) (tmp_of n)) ∷ [])

abbrev stored_in : ℕ → ℕ → State → State
stored_in n dst st =
    record { regs = st.regs; stack = pick (ltb dst slots_from) st.stack (set st.stack (dst - slots_from) (st.regs (tmp_of n))) }

module _ (n : ℕ) (hi : n ≤ 64) (dst : ℕ) (small : dst < slots_from + 128) (w : World) where
  store-runs : (st : State) → run_words w (store_words n dst) st ≡ stored_in n dst st
  store-runs st = go (ltb dst slots_from)
    where
      go : (b : Bool) → run_words w (pick b [] (word (store_slot (dst - slots_from) (tmp_of n)) ∷ [])) st
          ≡ record { regs = st.regs; stack = pick b st.stack (set st.stack (dst - slots_from) (st.regs (tmp_of n))) }
      go true = words_none w st
      go false =
          words_op w (store_slot (dst - slots_from) (tmp_of n)) [] st
          (record { code = omega arith; a = omega arith; b = omega arith; c = omega arith; w = omega arith })
          ∙ words_none w _

  landing_small : dest_reg n dst < 2 ^ 8
  unfolding dest_reg
  landing_small = pick_case (λ r. r < 2 ^ 8) (ltb dst slots_from) dst (tmp_of n) (λ e. ltb-true dst slots_from e) (λ _. omega arith)

  module _ (rs : List ℕ) (bytes : Bytes rs) where
    -- the state after the pops
    abbrev popped : State → State
    popped st = run w (pops_of (reverse rs)) (gets (dest_reg n dst) (st.regs 0) st)

    after-runs : (st : State) → run_words w (after_call n rs dst) st ≡ stored_in n dst (popped st)
    unfolding after_call
    after-runs st =
        words_op w (mov (dest_reg n dst) 0) (map word (pops_of (reverse rs)) ++ store_words n dst) st
        (record { code = omega arith; a = landing_small; b = omega arith; c = omega arith; w = omega arith })
        ∙ words_append w (map word (pops_of (reverse rs))) (store_words n dst) (gets (dest_reg n dst) (st.regs 0) st)
        ∙ ap (run_words w (store_words n dst)) (words_pops w rs (gets (dest_reg n dst) (st.regs 0) st) bytes)
        ∙ store-runs (popped st)

    -- from now, which the called code hands back, where st was the state before the pushes
    module _ (st now : State) (same : now.stack ≡ (run w (pushes_of rs) st).stack) where
      undone : Undone rs st (gets (dest_reg n dst) (now.regs 0) now) (popped now)
      undone = pops_undo w rs st (gets (dest_reg n dst) (now.regs 0) now) same

      after_regs : (x : ℕ) → (run_words w (after_call n rs dst) now).regs x ≡ pick (among x rs) (st.regs x) (upd now.regs (dest_reg n dst) (now.regs 0) x)
      after_regs x = ap (λ (t : State). t.regs x) (after-runs now) ∙ undone.regs_back x

      -- a pushed register is as it was before
      pub after-pushed : (x : ℕ) → among x rs ≡ true → (run_words w (after_call n rs dst) now).regs x ≡ st.regs x
      after-pushed x h = after_regs x ∙ rw h

      -- any other is as the called code left it, but the one that the result went to
      pub after_other : (x : ℕ) → among x rs ≡ false → x ≢ dest_reg n dst → (run_words w (after_call n rs dst) now).regs x ≡ now.regs x
      after_other x h k = after_regs x ∙ rw h (upd_other now.regs (dest_reg n dst) (now.regs 0) x k)

      module _ (apart : among (dest_reg n dst) rs ≡ false) where
        after_landing : (popped now).regs (dest_reg n dst) ≡ now.regs 0
        after_landing = undone.regs_back (dest_reg n dst) ∙ rw apart (upd_same now.regs (dest_reg n dst) (now.regs 0) (dest_reg n dst) refl)

        pub after_stack : (run_words w (after_call n rs dst) now).stack ≡ pick (ltb dst slots_from) st.stack (set st.stack (dst - slots_from) (now.regs 0))
        after_stack = ap (λ (t : State). t.stack) (after-runs now) ∙ rw undone.stack_back (go (ltb dst slots_from) refl)
          where
            go : (b : Bool) → ltb dst slots_from ≡ b
                → pick b st.stack (set st.stack (dst - slots_from) ((popped now).regs (tmp_of n)))
                ≡ pick b st.stack (set st.stack (dst - slots_from) (now.regs 0))
            go true e = refl
            go false e = ap (set st.stack (dst - slots_from)) (ap (popped now).regs (sym (landing_slot n dst e)) ∙ after_landing)

        -- register 0 is in the result's place
        pub after-result : (slots : ℕ) → place_ok n slots dst ≡ true → slots ≤ length st.stack
            → holds (run_words w (after_call n rs dst) now) dst ≡ now.regs 0
        after-result slots ok high = go (ltb dst slots_from) refl
          where
            go : (b : Bool) → ltb dst slots_from ≡ b
                → pick b ((run_words w (after_call n rs dst) now).regs dst) (get_or (run_words w (after_call n rs dst) now).stack (dst - slots_from) 0) ≡ now.regs 0
            go true e =
                let l : dest_reg n dst ≡ dst = landing_reg n dst e in
                after_regs dst ∙ rw (rw l at apart, l) (upd_same now.regs dst (now.regs 0) dst refl)
            go false e =
                let h : dst < slots_from + slots = place-within n slots dst ok in
                let k : slots_from ≤ dst = ltb-false dst slots_from e in
                rw (after_stack, e) (get_or-set_same st.stack (dst - slots_from) (now.regs 0) 0 (omega arith))

        -- every other slot is as it was, and the stack as high
        pub after-slot : (k : ℕ) → slots_from + k ≢ dst → get_or (run_words w (after_call n rs dst) now).stack k 0 ≡ get_or st.stack k 0
        after-slot k ne = rw after_stack (go (ltb dst slots_from) refl)
          where
            go : (b : Bool) → ltb dst slots_from ≡ b
                → get_or (pick b st.stack (set st.stack (dst - slots_from) (now.regs 0))) k 0 ≡ get_or st.stack k 0
            go true e = refl
            go false e =
                let h : slots_from ≤ dst = ltb-false dst slots_from e in
                get_or-set_other st.stack (dst - slots_from) k (now.regs 0) 0 (λ (q : k ≡ dst - slots_from). ne (omega arith))

        pub after_height : length (run_words w (after_call n rs dst) now).stack ≡ length st.stack
        after_height =
            ap length after_stack
            ∙ pick-both (λ (l : List ℕ). length l ≡ length st.stack) (ltb dst slots_from) st.stack _ refl
            (length-set st.stack (dst - slots_from) (now.regs 0))
