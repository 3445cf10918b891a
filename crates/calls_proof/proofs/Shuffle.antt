-- The shuffle of arguments: register i holds argument i after it, the other registers and the stack are as they were.
use mathlib.Core.Path.{◌≡◌, refl, sym, ap, ◌∙◌}
use Prim.Native.Nat.{ℕ, zero, suc, ◌+◌, ◌-◌, ◌≤◌, ◌<◌}
use mathlib.Core.List.{List, [], ◌∷◌}
use mathlib.Core.Bool.{Bool, true, false}
use native.Mathlib.Nat.{not-suc-le-zero, le_of_suc-le-suc, add-zero}
use native.Mathlib.Omega.{arith}
use borrow.Author.Tests.{ltb-true, ltb-false, lt-ltb, le-ltb}
use lib.ListN.{length, get_or}
use lib.Seq.{ext_get_or}
use lib.Dec.{ltb}
use Rattle.base.specs.Choice.{pick}
use Rattle.base.specs.Lists.{among}
use Rattle.place.specs.Registers.{in_pool, scratch_of, tmp_of}
use Rattle.place.specs.Places.{slots_from}
use Rattle.machine.specs.Machine.{State, World, run_words, holds}
use Rattle.machine.specs.Stack.{raised}
use Rattle.machine.proofs.Machine.{holds-reg}
use Rattle.moves.specs.AtOnce.{place_ok, MovedAtOnce}
use Rattle.moves.proofs.Checked.{Checked}
use Rattle.lower.specs.Operands.{place_at}
use Rattle.calls.specs.Calls.{argument_places, argument_regs}
use Rattle.calls_proof.specs.CallsRight.{shuffle_words, all_placed}
use Rattle.pairs_proof.proofs.Pairs.{not-among, checked_moves, pairs_at_once}

-- ---- the two columns
places_long : (places : List ℕ) (pushes : ℕ) (arguments : List ℕ) → length (argument_places places pushes arguments) ≡ length arguments
places_long places pushes [] = refl
places_long places pushes (v ∷ vs) = ap suc (places_long places pushes vs)

regs_long : (i : ℕ) (arguments : List ℕ) → length (argument_regs i arguments) ≡ length arguments
regs_long i [] = refl
regs_long i (v ∷ vs) = ap suc (regs_long (i + 1) vs)

places_at : (places : List ℕ) (pushes : ℕ) (arguments : List ℕ) (j : ℕ) → j < length arguments
    → get_or (argument_places places pushes arguments) j 0 ≡ raised pushes (place_at places (get_or arguments j 0))
places_at places pushes [] j h = absurd (not-suc-le-zero h)
places_at places pushes (v ∷ vs) zero h = refl
places_at places pushes (v ∷ vs) (suc j) h = places_at places pushes vs j (le_of_suc-le-suc h)

regs_at : (i : ℕ) (arguments : List ℕ) (j : ℕ) → j < length arguments → get_or (argument_regs i arguments) j 0 ≡ i + j
regs_at i [] j h = absurd (not-suc-le-zero h)
regs_at i (v ∷ vs) zero h = sym (add-zero i)
regs_at i (v ∷ vs) (suc j) h = regs_at (i + 1) vs j (le_of_suc-le-suc h) ∙ omega arith

-- argument i goes to register i
reg_at : (arguments : List ℕ) (j : ℕ) → j < length arguments → get_or (argument_regs 0 arguments) j 0 ≡ j
reg_at arguments j h = regs_at 0 arguments j h ∙ omega arith

-- a register from the argument count on is no destination, and no slot is
not-reg : (arguments : List ℕ) (x : ℕ) → length arguments ≤ x → among x (argument_regs 0 arguments) ≡ false
not-reg arguments x h =
    not-among x (argument_regs 0 arguments)
    (λ j q e.
    let k : j < length arguments = (rw regs_long at q) in
    let f : j ≡ x = sym (reg_at arguments j k) ∙ e in
    omega arith)

-- a place is one still when it is raised, of so many slots more
raised_ok : (n slots pushes p : ℕ) → place_ok n slots p ≡ true → place_ok n (slots + pushes) (raised pushes p) ≡ true
raised_ok n slots pushes p = go (ltb p slots_from) refl
  where
    go : (b : Bool) → ltb p slots_from ≡ b → pick b (in_pool n p) (ltb (p - slots_from) slots) ≡ true
        → place_ok n (slots + pushes) (pick b p (p + pushes)) ≡ true
    go true e h = rw e h
    go false e h =
        let a : slots_from ≤ p = ltb-false p slots_from e in
        let b : p - slots_from < slots = ltb-true (p - slots_from) slots h in
        rw (le-ltb (p + pushes) slots_from (omega arith)) (lt-ltb (p + pushes - slots_from) (slots + pushes) (omega arith))

reg_ok_lem : (n slots r : ℕ) → n ≤ 64 → r < n - 2 → place_ok n slots r ≡ true
reg_ok_lem n slots r hi h = rw (lt-ltb r slots_from (omega arith)) (lt-ltb r (n - 2) h)

module _ (n : ℕ) (lo : 22 ≤ n) (hi : n ≤ 64) (slots : ℕ) (places arguments : List ℕ) (pushes : ℕ)
    (few : length arguments ≤ n - 2) (placed : all_placed n slots places arguments) where
  columns_checked : Checked n (slots + pushes) (argument_places places pushes arguments) (argument_regs 0 arguments)
  columns_checked =
      record {
        sources = λ j q.
            let h : j < length arguments = (rw places_long at q) in
            rw (places_at places pushes arguments j h) (raised_ok n slots pushes (place_at places (get_or arguments j 0)) (placed j h));
        destinations = λ j q.
            let h : j < length arguments = (rw regs_long at q) in
            rw (reg_at arguments j h) (reg_ok_lem n (slots + pushes) j hi (omega arith));
        once = λ i j p q e.
            let h : i < length arguments = (rw regs_long at p) in
            let k : j < length arguments = (rw regs_long at q) in
            sym (reg_at arguments i h) ∙ e ∙ reg_at arguments j k;
      }

  module _ (w : World) (st : State) (high : slots + pushes ≤ length st.stack) (most : slots + pushes ≤ 256) where
    abbrev shuffled : State
    shuffled = run_words w (shuffle_words n places pushes arguments) st

    moved : MovedAtOnce n (argument_places places pushes arguments) (argument_regs 0 arguments) st shuffled
    moved =
        pairs_at_once n lo hi w (slots + pushes) (argument_places places pushes arguments) (argument_regs 0 arguments) st
        (places_long places pushes arguments ∙ sym (regs_long 0 arguments))
        (checked_moves n (slots + pushes) (argument_places places pushes arguments) (argument_regs 0 arguments) columns_checked) high most

    -- register i has argument i, whose slot is raised by the pushes
    pub shuffle_arrived : (i : ℕ) → i < length arguments → shuffled.regs i ≡ holds st (raised pushes (place_at places (get_or arguments i 0)))
    shuffle_arrived i h =
        let q : i < length (argument_regs 0 arguments) = rw regs_long h in
        let e : holds shuffled i ≡ holds st (get_or (argument_places places pushes arguments) i 0) = (rw (reg_at arguments i h) at (moved.arrived i q)) in
        sym (holds-reg shuffled i (omega arith)) ∙ e ∙ ap (holds st) (places_at places pushes arguments i h)

    -- the other registers of the pool and the stack are as they were
    pub shuffle-kept : (r : ℕ) → in_pool n r ≡ true → length arguments ≤ r → shuffled.regs r ≡ st.regs r
    shuffle-kept r p h =
        let q : r < n - 2 = ltb-true r (n - 2) p in
        moved.register_kept r (omega arith) (λ (e : r ≡ scratch_of n). omega arith) (λ (e : r ≡ tmp_of n). omega arith) (not-reg arguments r h)

    pub shuffle_stack : shuffled.stack ≡ st.stack
    shuffle_stack =
        ext_get_or 0 shuffled.stack st.stack moved.height_kept
        (λ k _. moved.slot_kept k (not-reg arguments (slots_from + k) (omega arith)))
