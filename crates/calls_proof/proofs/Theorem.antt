-- The theorem on calls and tails: what the rule emits brings each argument to its register, and the result to its place, and leaves what is noted
-- and the stack as they were.
use mathlib.Core.Path.{◌≡◌, refl, sym, ap, ◌∙◌}
use mathlib.Core.Logic.{◌≢◌, ⊎_elim}
use Prim.Native.Nat.{ℕ, ◌+◌, ◌-◌, ◌≤◌, ◌<◌}
use mathlib.Core.List.{List, [], ◌∷◌, ◌++◌, map, reverse}
use mathlib.Core.Bool.{Bool, true, false}
use native.Mathlib.Omega.{arith}
use borrow.Author.Tests.{ltb-true}
use lib.ListN.{length, get_or}
use lib.Dec.{ltb}
use Rattle.base.specs.Choice.{pick}
use Rattle.base.specs.Lists.{among}
use Rattle.base.specs.Masks.{has_bit}
use Rattle.base.specs.Emission.{Out, emit, emit_all}
use Rattle.base.proofs.Numbers.{lt?, both, pick-both}
use Rattle.base.proofs.Pens.{emit_all-append}
use Rattle.place.specs.Registers.{in_pool, tmp_of}
use Rattle.place.specs.Places.{slots_from}
use Rattle.op.specs.Words.{word}
use Rattle.op.specs.Ops as op
use Rattle.machine.specs.Machine.{State, World, run, run_words, holds}
use Rattle.machine.specs.Calls.{Kind, Keeps}
use Rattle.machine.specs.Stack.{pushes_of, pops_of, raised}
use Rattle.machine.proofs.Stack.{push-holds, push_height, push_regs, run-pushes}
use Rattle.packs.proofs.Words.{Bytes, words_pushes}
use Rattle.moves.proofs.Checked.{place-within}
use Rattle.lower.specs.Operands.{place_at, dest_reg, stored}
use Rattle.edges.specs.Pairs.{move_pairs}
use Rattle.calls.specs.Calls.{pushed_for, pushed_below, call_with, shuffle, lower_tail, tail_words}
use Rattle.calls_proof.specs.CallsRight.{shuffle_words, before_call, after_call, all_placed, Called, CallRight, CallsTheorem}
use Rattle.calls_proof.proofs.Masked.{pushed_in, pushed-past, pushed_low, pushed-noted, pushed_few, limit_few, limit_kept}
use Rattle.calls_proof.proofs.Words.{words_append}
use Rattle.calls_proof.proofs.Shuffle.{shuffle_arrived, shuffle-kept, shuffle_stack}
use Rattle.calls_proof.proofs.After.{landing_reg, landing_slot, after-pushed, after_other, after-result, after-slot, after_height}

-- ---- what the rule emits
emit_one : (b : Bool) (x : ℕ) (o : Out) → emit_all (pick b [] (x ∷ [])) o ≡ pick b o (emit x o)
unfolding emit_all
emit_one true x o = refl
emit_one false x o = refl

call_emits : (n : ℕ) (places pushes arguments : List ℕ) (called dst : ℕ) (o : Out)
    → call_with n places pushes arguments called dst o ≡ emit_all (before_call n places pushes arguments ++ (called ∷ after_call n pushes dst)) o
unfolding call_with shuffle move_pairs stored before_call after_call emit_all
call_emits n places pushes arguments called dst o =
    let pushing : List ℕ = map word (pushes_of pushes) in
    let moving : List ℕ = shuffle_words n places (length pushes) arguments in
    sym (emit_all-append (pushing ++ moving) (called ∷ after_call n pushes dst) o
    ∙ ap (emit_all (called ∷ after_call n pushes dst)) (emit_all-append pushing moving o)
    ∙ emit_all-append (map word (pops_of (reverse pushes))) _ _
    ∙ emit_one (ltb dst slots_from) (word (op.store_slot (dst - slots_from) (tmp_of n))) _)

tail_emits : (n : ℕ) (places arguments : List ℕ) (f : ℕ) (o : Out)
    → lower_tail n places arguments f o ≡ emit_all (shuffle_words n places 0 arguments ++ tail_words f (length arguments)) o
unfolding lower_tail shuffle move_pairs
tail_emits n places arguments f o = sym (emit_all-append (shuffle_words n places 0 arguments) (tail_words f (length arguments)) o)

-- ---- a Tail's arguments
tail_arrived : (n : ℕ) → 22 ≤ n → n ≤ 64 → (slots : ℕ) (places arguments : List ℕ) (w : World) (st : State) → length arguments ≤ n - 2
    → all_placed n slots places arguments → slots ≤ 128 → slots ≤ length st.stack → (i : ℕ) → i < length arguments
    → (run_words w (shuffle_words n places 0 arguments) st).regs i ≡ holds st (place_at places (get_or arguments i 0))
tail_arrived n lo hi slots places arguments w st few placed most high i h =
    shuffle_arrived n lo hi slots places arguments 0 few placed w st (omega arith) (omega arith) i h
    ∙ ap (holds st) (unraised (place_at places (get_or arguments i 0)))
  where
    unraised : (p : ℕ) → raised 0 p ≡ p
    unraised p = pick-both (λ x. x ≡ p) (ltb p slots_from) p (p + 0) refl (omega arith)

-- ---- a call
module _ (n : ℕ) (lo : 22 ≤ n) (hi : n ≤ 64) (kind : Kind) (slots : ℕ) (places arguments : List ℕ) (noted dst : ℕ) (w : World) (st : State)
    (c : Called n slots places arguments noted dst st) where
  abbrev pushes : List ℕ
  pushes = pushed_for kind noted (length arguments)

  -- the states behind the pushes, and before the call op
  abbrev saved : State
  saved = run w (pushes_of (pushed_for kind noted (length arguments))) st

  abbrev shuffled : State
  shuffled = run_words w (shuffle_words n places (length (pushed_for kind noted (length arguments))) arguments) saved

  limit : pushed_below kind (length arguments) ≤ n - 2
  limit = limit_few n kind (length arguments) lo c.few

  few_pushes : length pushes ≤ 62
  few_pushes = omega (arith, limit, pushed_few kind noted (length arguments))

  bytes : Bytes pushes
  bytes r m = omega (arith, limit, pushed_low kind noted (length arguments) r m)

  before-runs : run_words w (before_call n places pushes arguments) st ≡ shuffled
  unfolding before_call
  before-runs =
      words_append w (map word (pushes_of pushes)) (shuffle_words n places (length pushes) arguments) st
      ∙ ap (run_words w (shuffle_words n places (length pushes) arguments)) (words_pushes w pushes st bytes)

  high : slots + length pushes ≤ length saved.stack
  high = omega (arith, push_height w pushes st, c.on_stack)

  most : slots + length pushes ≤ 256
  most = omega (arith, few_pushes, c.few_slots)

  arrived : (i : ℕ) → i < length arguments
      → (run_words w (before_call n places pushes arguments) st).regs i ≡ holds st (place_at places (get_or arguments i 0))
  arrived i h =
      ap (λ (t : State). t.regs i) before-runs
      ∙ shuffle_arrived n lo hi slots places arguments (length pushes) c.few c.placed w saved high most i h
      ∙ push-holds w pushes st (place_at places (get_or arguments i 0))

  -- a register of the pool that takes no argument is as it was before the pushes
  unshuffled : (r : ℕ) → in_pool n r ≡ true → length arguments ≤ r → (run_words w (before_call n places pushes arguments) st).regs r ≡ st.regs r
  unshuffled r p h =
      ap (λ (t : State). t.regs r) before-runs
      ∙ shuffle-kept n lo hi slots places arguments (length pushes) c.few c.placed w saved high most r p h
      ∙ ap (λ (t : State). t.regs r) (run-pushes w pushes st) ∙ ap (λ (g : ℕ → ℕ). g r) (push_regs pushes st)

  small : dst < slots_from + 128
  small = omega (arith, place-within n slots dst c.result, c.few_slots)

  -- the result goes to no register that is noted, so to none that was pushed
  noted_apart : (r : ℕ) → has_bit noted r ≡ true → r ≢ dest_reg n dst
  noted_apart r h e =
      ⊎_elim (λ (q : ltb dst slots_from ≡ true). c.not_result r h (e ∙ landing_reg n dst q))
      (λ (q : ltb dst slots_from ≡ false). omega (arith, ltb-true r (n - 2) (c.stands_in_pool r h), e ∙ landing_slot n dst q))
      (both (ltb dst slots_from))

  apart : among (dest_reg n dst) pushes ≡ false
  apart =
      ⊎_elim (λ (q : among (dest_reg n dst) pushes ≡ true).
      absurd (noted_apart (dest_reg n dst) (pushed-noted kind noted (length arguments) (dest_reg n dst) q) refl))
      (λ (q : among (dest_reg n dst) pushes ≡ false). q)
      (both (among (dest_reg n dst) pushes))

  module _ (st'' : State) (keeps : Keeps n kind (length arguments) (run_words w (before_call n places pushes arguments) st) st'') where
    same : st''.stack ≡ saved.stack
    same =
        keeps.stack_kept ∙ ap (λ (t : State). t.stack) before-runs
        ∙ shuffle_stack n lo hi slots places arguments (length pushes) c.few c.placed w saved high most

    -- a noted register below the limit was pushed; any other the shuffle and the called code keep
    register_kept : (r : ℕ) → has_bit noted r ≡ true → (run_words w (after_call n pushes dst) st'').regs r ≡ st.regs r
    register_kept r h =
        ⊎_elim (λ (q : r < pushed_below kind (length arguments)).
        after-pushed n hi dst small w pushes bytes st st'' same r (pushed_in kind noted (length arguments) r h q))
        (λ (q : pushed_below kind (length arguments) ≤ r).
        let k = limit_kept kind (length arguments) r q in
        after_other n hi dst small w pushes bytes st st'' same r (pushed-past kind noted (length arguments) r q) (noted_apart r h)
        ∙ keeps.regs_kept r (c.stands_in_pool r h) k.0 k.1 ∙ unshuffled r (c.stands_in_pool r h) k.1)
        (lt? r (pushed_below kind (length arguments)))

    call_right : CallRight n kind places arguments noted dst w st st''
    call_right =
        record {
          arrived = arrived;
          result = after-result n hi dst small w pushes bytes st st'' same apart slots c.result c.on_stack;
          register_kept = register_kept;
          slot_kept = after-slot n hi dst small w pushes bytes st st'' same apart;
          height_kept = after_height n hi dst small w pushes bytes st st'' same apart;
        }

pub calls_theorem : CallsTheorem
calls_theorem n lo hi =
    record {
      emits = call_emits n;
      right = λ kind slots places arguments noted dst w st st'' c keeps. call_right n lo hi kind slots places arguments noted dst w st c st'' keeps;
      tail_emits = tail_emits n;
      tail_arrived = tail_arrived n lo hi;
    }
