-- Demand 3 of a call, as a statement about what the rule emits: the ops before the call op leave each argument in its register; from every
-- state that the called code may hand back, the ops after it bring register 0 to the result's place and leave what was noted, and the stack,
-- as they were.
use Rattle.std.specs.Prelude.{◌≡◌, ◌≢◌, true, ℕ, ◌+◌, ◌-◌, ◌≤◌, ◌<◌, List, [], ◌∷◌, ◌++◌, map, reverse, ltb, length, get_or}
use Rattle.base.specs.Choice.{pick}
use Rattle.base.specs.Masks.{has_bit}
use Rattle.base.specs.Emission.{Out, emit_all}
use Rattle.place.specs.Registers.{in_pool, tmp_of}
use Rattle.place.specs.Places.{slots_from}
use Rattle.op.specs.Words.{word}
use Rattle.op.specs.Ops as op
use Rattle.machine.specs.Machine.{State, World, run_words, holds}
use Rattle.machine.specs.Calls.{Kind, Keeps}
use Rattle.machine.specs.Stack.{pushes_of, pops_of}
use Rattle.moves.specs.Moves.{move_words}
use Rattle.moves.specs.AtOnce.{place_ok}
use Rattle.lower.specs.Operands.{place_at, dest_reg}
use Rattle.edges.specs.Pairs.{differing_sources, differing_destinations}
use Rattle.calls.specs.Calls.{pushed_for, argument_places, argument_regs, call_with, lower_tail, tail_words}

-- the shuffle of arguments, after so many pushes
abbrev pub shuffle_words : ℕ → List ℕ → ℕ → List ℕ → List ℕ
shuffle_words n places pushes arguments =
    move_words n (differing_sources (argument_places places pushes arguments) (argument_regs 0 arguments))
    (differing_destinations (argument_places places pushes arguments) (argument_regs 0 arguments))

-- what stands before the call op, and what stands after it
unfoldable pub before_call : ℕ → List ℕ → List ℕ → List ℕ → List ℕ
before_call n places pushes arguments = map word (pushes_of pushes) ++ shuffle_words n places (length pushes) arguments

unfoldable pub after_call : ℕ → List ℕ → ℕ → List ℕ
after_call n pushes dst =
    word (op.mov (dest_reg n dst) 0)
    ∷ (map word (pops_of (reverse pushes)) ++ pick (ltb dst slots_from) [] (word (op.store_slot (dst - slots_from) (tmp_of n)) ∷ []))

-- every argument has a place: a pool register, or one of so many slots
abbrev pub all_placed : ℕ → ℕ → List ℕ → List ℕ → Type 0
all_placed n slots places arguments = (i : ℕ) → i < length arguments → place_ok n slots (place_at places (get_or arguments i 0)) ≡ true

-- a call: no more arguments than pool registers, each with a place; a place for the result; noted registers, all of the pool, the result's not
-- among them; on the stack at least the function's slots
pub record Called (n slots : ℕ) (places arguments : List ℕ) (noted dst : ℕ) (st : State) : Type 0 where
  pub few : length arguments ≤ n - 2
  pub placed : all_placed n slots places arguments
  pub result : place_ok n slots dst ≡ true
  pub stands_in_pool : (r : ℕ) → has_bit noted r ≡ true → in_pool n r ≡ true
  pub not_result : (r : ℕ) → has_bit noted r ≡ true → r ≢ dst
  pub few_slots : slots ≤ 128
  pub on_stack : slots ≤ length st.stack

-- from st, before the first push, to st', before the call op; from st'', which the called code hands back, to st''', after the last op
pub record CallRight (n : ℕ) (kind : Kind) (places arguments : List ℕ) (noted dst : ℕ) (w : World) (st st'' : State) : Type 0 where
  pub arrived : (i : ℕ) → i < length arguments
      → (run_words w (before_call n places (pushed_for kind noted (length arguments)) arguments) st).regs i ≡ holds st (place_at places (get_or arguments i 0))
  pub result : holds (run_words w (after_call n (pushed_for kind noted (length arguments)) dst) st'') dst ≡ st''.regs 0
  pub register_kept : (r : ℕ) → has_bit noted r ≡ true
      → (run_words w (after_call n (pushed_for kind noted (length arguments)) dst) st'').regs r ≡ st.regs r
  pub slot_kept : (k : ℕ) → slots_from + k ≢ dst
      → get_or (run_words w (after_call n (pushed_for kind noted (length arguments)) dst) st'').stack k 0 ≡ get_or st.stack k 0
  pub height_kept : length (run_words w (after_call n (pushed_for kind noted (length arguments)) dst) st'').stack ≡ length st.stack

pub record CallsRight (n : ℕ) : Type 0 where
  -- the rule emits what stands before, the call op, and what stands after
  pub emits : (places pushes arguments : List ℕ) (called dst : ℕ) (o : Out)
      → call_with n places pushes arguments called dst o ≡ emit_all (before_call n places pushes arguments ++ (called ∷ after_call n pushes dst)) o
  pub right : (kind : Kind) (slots : ℕ) (places arguments : List ℕ) (noted dst : ℕ) (w : World) (st st'' : State)
      → Called n slots places arguments noted dst st
      → Keeps n kind (length arguments) (run_words w (before_call n places (pushed_for kind noted (length arguments)) arguments) st) st''
      → CallRight n kind places arguments noted dst w st st''
  -- a Tail's shuffle, and the ops behind it
  pub tail_emits : (places arguments : List ℕ) (f : ℕ) (o : Out)
      → lower_tail n places arguments f o ≡ emit_all (shuffle_words n places 0 arguments ++ tail_words f (length arguments)) o
  pub tail_arrived : (slots : ℕ) (places arguments : List ℕ) (w : World) (st : State) → length arguments ≤ n - 2 → all_placed n slots places arguments
      → slots ≤ 128 → slots ≤ length st.stack → (i : ℕ) → i < length arguments
      → (run_words w (shuffle_words n places 0 arguments) st).regs i ≡ holds st (place_at places (get_or arguments i 0))

abbrev pub CallsTheorem : Type 0
CallsTheorem = (n : ℕ) → 22 ≤ n → n ≤ 64 → CallsRight n
