-- The loop whose two parameters trade places on the way back, on a machine with 22 registers: it calls a function on the way, and both parameters
-- are in use past the call. They have registers 0 and 1, the call's result has register 2.
use mathlib.Core.Path.{◌≡◌, refl}
use Prim.Native.Nat.{ℕ}
use mathlib.Core.List.{List, [], ◌∷◌}
use native.Mathlib.Omega.{arith}
use lib.Dec.{lit≤}
use lib.ListN.{length, get_or}
use Rattle.base.specs.Masks.{has_bit, with_bit, without_bit}
use Rattle.place.specs.Places.{place_of, found_of}
use Rattle.op.specs.Words.{word}
use Rattle.op.specs.Ops as op
use Rattle.machine.specs.Machine.{State, World, run_words}
use Rattle.machine.specs.Calls.{function, Keeps}
use Rattle.moves.specs.Moves.{turns, moves, move_words}
use Rattle.alloc.specs.State.{mask_of, fresh_of}
use Rattle.alloc.specs.Allocation as alloc
use Rattle.input.specs.Layout.{head_field, value_field, block_field, instr_field, edge_field, pool_at, list_at}
use Rattle.input.specs.Records.{operands_of}
use Rattle.rows.specs.Rows.{instr, instr_rows, block_rows, rows_from, over_rows, refs, row_defs, defined, row_in, InUse}
use Rattle.assign.specs.Steps.{pins, places, notes, hints, edge_hints, edges_hints, row_steps}
use Rattle.assign.specs.Walk.{hint_for, place_step, pin_step, note_step, hint_step, step, run, pool_of, first_hints, begin, assigned}
use Rattle.sharing.specs.Sharing.{RowIs}
use Rattle.sharing.proofs.Example.{loop, loop-given, loop-places}
use Rattle.ready.specs.Ready.{InstrOf}
use Rattle.lower.specs.Operands.{dest_reg}
use Rattle.calls.specs.Calls.{masked_from}
use Rattle.calls_proof.specs.CallsRight.{before_call, after_call}
use Rattle.calls_kept.specs.CallsKept.{calls_function}
use Rattle.calls_kept.proofs.Shown.{Walked, Emits, Shown, shown, keeps_so}
use Rattle.calls_kept.proofs.Theorem.{calls-kept}

-- instruction 0 of block 1, at row 3, defines value 4
in-loop : InstrOf loop 1 0
unfolding head_field block_field
in-loop = record { block = record { there = lit≤ tt; is = refl }; from = lit≤ tt; until = lit≤ tt }

pub call-row : RowIs loop 3 (instr 0)
unfolding rows_from block_rows instr_rows head_field block_field
call-row = record { within = lit≤ tt; is = refl }

-- it has no arguments
pub no_arguments : length (operands_of loop 0) ≡ 0
unfolding head_field instr_field list_at
no_arguments = refl

-- parameters 2 and 3 are in use at the call
pub first_in_use : InUse loop 2 3
unfolding defined row_in over_rows row_defs refs rows_from block_rows instr_rows head_field value_field block_field instr_field pool_at list_at
first_in_use = record { is = refl; from = lit≤ tt; until = lit≤ tt }

pub second_in_use : InUse loop 3 3
unfolding defined row_in over_rows row_defs refs rows_from block_rows instr_rows head_field value_field block_field instr_field pool_at list_at
second_in_use = record { is = refl; from = lit≤ tt; until = lit≤ tt }

-- the places, and registers 0 and 1 noted for the result
abbrev map : List ℕ
map = 1 ∷ 2 ∷ 1 ∷ 2 ∷ 3 ∷ 1 ∷ []

loop-noted : get_or (assigned 22 loop).noted 4 0 ≡ 3
unfolding assigned begin first_hints pool_of run step place_step pin_step note_step hint_step hint_for pins places notes hints edge_hints edges_hints row_steps over_rows rows_from block_rows instr_rows head_field value_field block_field instr_field edge_field pool_at list_at alloc.place_of alloc.map_after_place alloc.map_entered alloc.new_place alloc.enter alloc.take_of alloc.from_pool alloc.last_free alloc.hinted alloc.take_reg alloc.take_slot alloc.is_free alloc.expire_of alloc.kept_of alloc.gone_of alloc.release_all alloc.release alloc.free_reg alloc.free_slot alloc.pin_of alloc.map_after_pin alloc.live_after fresh_of mask_of found_of place_of has_bit with_bit without_bit
loop-noted = refl

loop-walked : Walked 22 loop 4 map 3
loop-walked = record { places = loop-places.0; noted = loop-noted }

-- both are pushed; the result goes to register 2, and both are popped
abbrev before : List ℕ
before = word (op.push2 0 1) ∷ []

abbrev after : List ℕ
after = word (op.mov 2 0) ∷ word (op.pop2 1 0) ∷ []

loop_emits : Emits 22 loop function 0 4 map 3 before after
unfolding before_call after_call dest_reg masked_from has_bit turns moves move_words head_field instr_field list_at
loop_emits = record { ahead = refl; behind = refl }

-- Whatever the function hands back, if it keeps what a function keeps: behind the call the result is in register 2, and registers 0 and 1 and the
-- stack are as they were.
pub record LoopKept (w : World) (st st'' : State) : Type 0 where
  pub given : (run_words w after st'').regs 2 ≡ st''.regs 0
  pub first : (run_words w after st'').regs 0 ≡ st.regs 0
  pub second : (run_words w after st'').regs 1 ≡ st.regs 1
  pub slot : (k : ℕ) → get_or (run_words w after st'').stack k 0 ≡ get_or st.stack k 0
  pub height : length (run_words w after st'').stack ≡ length st.stack

module _ (w : World) (st st'' : State) (keeps : Keeps 22 function 0 (run_words w before st) st'') where
  kept : Shown loop map before after 0 4 3 w st st''
  unfolding head_field instr_field
  kept =
      shown loop-walked loop_emits 3 w st st''
      (calls-kept 22 (lit≤ tt) (lit≤ tt) loop loop-given 1 0 4 3 in-loop call-row refl function (calls_function refl) w st st''
      (omega (arith, loop-places.1)) (keeps_so loop-walked loop_emits 3 w st st'' (rw no_arguments keeps)))

  pub loop-kept : LoopKept w st st''
  loop-kept =
      record {
        given = kept.result;
        first = kept.in_use 2 first_in_use (λ e. omega (arith, e));
        second = kept.in_use 3 second_in_use (λ e. omega (arith, e));
        slot = λ k. kept.slot_kept k (λ e. omega (arith, e));
        height = kept.height_kept;
      }
