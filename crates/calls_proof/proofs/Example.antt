-- A Sys with two arguments on a machine with 22 registers: value 0 in slot 0, value 1 in register 0. Registers 1 and 5 are noted; 1 is below the
-- limit, which is 2, and is pushed, so that slot 0 is slot 1 until it is popped. The result goes to slot 1, from TMP, behind the pop.
use mathlib.Core.Path.{◌≡◌, refl}
use mathlib.Core.Logic.{⊎_elim}
use Prim.Native.Nat.{ℕ, zero, suc, ◌+◌, ◌≤◌, ◌<◌}
use mathlib.Core.List.{List, [], ◌∷◌, ◌++◌}
use mathlib.Core.Bool.{true}
use native.Mathlib.Omega.{arith}
use borrow.Author.Tests.{eqb-true, lt-ltb}
use lib.Dec.{lit≤}
use lib.ListN.{length, get_or}
use Rattle.base.specs.Masks.{digit, has_bit}
use Rattle.base.specs.Emission.{Out, emit_all}
use Rattle.base.proofs.Numbers.{lt?}
use Rattle.base.proofs.Masks.{digit_high}
use Rattle.op.specs.Words.{word}
use Rattle.op.specs.Ops as op
use Rattle.machine.specs.Machine.{State, World, run_words}
use Rattle.machine.specs.Calls.{builtin, Keeps}
use Rattle.moves.specs.Moves.{swap_remove, turn_ops, turn_sources, turn_destinations, turns, moves, move_words}
use Rattle.edges.specs.Pairs.{move_pairs}
use Rattle.lower.specs.Operands.{dest_reg, stored}
use Rattle.calls.specs.Calls.{masked_from, shuffle, call_with, lower_sys}
use Rattle.calls_proof.specs.CallsRight.{before_call, after_call, all_placed, Called, CallRight}
use Rattle.calls_proof.proofs.Theorem.{calls_theorem}

-- a place's word is one more than the place: slot 0, register 0
abbrev places : List ℕ
places = 257 ∷ 1 ∷ []

-- registers 1 and 5
abbrev noted : ℕ
noted = 34

-- slot 1
abbrev result : ℕ
result = 257

-- the push of register 1, the moves; the result to TMP, the pop, the store
abbrev before : List ℕ
before = word (op.push 1) ∷ word (op.mov 1 0) ∷ word (op.load_slot 0 1) ∷ []

abbrev after : List ℕ
after = word (op.mov 20 0) ∷ word (op.pop 1) ∷ word (op.store_slot 1 20) ∷ []

pub sys_words : (number : ℕ) (o : Out)
    → lower_sys 22 places noted (0 ∷ 1 ∷ []) number result o ≡ emit_all (before ++ (word (op.sys number 2) ∷ after)) o
unfolding lower_sys call_with shuffle move_pairs stored dest_reg masked_from has_bit swap_remove turn_ops turn_sources turn_destinations turns moves move_words emit_all
sys_words number o = refl

-- no register from 6 on is noted
noted_low : (r : ℕ) → has_bit noted r ≡ true → r < 6
unfolding has_bit
noted_low r h =
    ⊎_elim (λ (q : r < 6). q)
    (λ (q : 6 ≤ r). absurd (omega (arith, eqb-true (digit noted r) 1 h, digit_high 6 noted r (lit≤ tt) q)))
    (lt? r 6)

both-placed : all_placed 22 2 places (0 ∷ 1 ∷ [])
both-placed zero h = refl
both-placed (suc zero) h = refl
both-placed (suc (suc i)) h = absurd (omega arith)

sys-called : (st : State) → 2 ≤ length st.stack → Called 22 2 places (0 ∷ 1 ∷ []) noted result st
sys-called st high =
    record {
      few = lit≤ tt;
      placed = both-placed;
      result = refl;
      stands_in_pool = λ r h. lt-ltb r 20 (omega (arith, noted_low r h));
      not_result = λ r h e. omega (arith, noted_low r h, e);
      few_slots = lit≤ tt;
      on_stack = high;
    }

-- Whatever the builtin hands back, if it keeps what a builtin keeps: both arguments were where it looks for them, and behind the call the result
-- is in slot 1 and the noted registers, slot 0 and the height of the stack are as they were.
pub record SysRight (w : World) (st st'' : State) : Type 0 where
  pub first : (run_words w before st).regs 0 ≡ get_or st.stack 0 0
  pub second : (run_words w before st).regs 1 ≡ st.regs 0
  pub given : get_or (run_words w after st'').stack 1 0 ≡ st''.regs 0
  pub pushed : (run_words w after st'').regs 1 ≡ st.regs 1
  pub unpushed : (run_words w after st'').regs 5 ≡ st.regs 5
  pub slot : get_or (run_words w after st'').stack 0 0 ≡ get_or st.stack 0 0
  pub height : length (run_words w after st'').stack ≡ length st.stack

pub sys_right : (w : World) (st st'' : State) → 2 ≤ length st.stack → Keeps 22 builtin 2 (run_words w before st) st'' → SysRight w st st''
unfolding before_call after_call dest_reg masked_from has_bit swap_remove turn_ops turn_sources turn_destinations turns moves move_words
sys_right w st st'' high keeps =
    let c : CallRight 22 builtin places (0 ∷ 1 ∷ []) noted result w st st'' =
    (calls_theorem 22 (lit≤ tt) (lit≤ tt)).right builtin 2 places (0 ∷ 1 ∷ []) noted result w st st'' (sys-called st high) keeps in
    record {
      first = c.arrived 0 (lit≤ tt);
      second = c.arrived 1 (lit≤ tt);
      given = c.result;
      pushed = c.register_kept 1 refl;
      unpushed = c.register_kept 5 refl;
      slot = c.slot_kept 0 (λ (e : 256 + 0 ≡ result). omega arith);
      height = c.height_kept;
    }
