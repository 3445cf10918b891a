-- A call whose result is never read: function 1 calls itself with its parameter and returns the parameter. The result has a place still,
-- register 1, and none that the parameter, in register 0, has.
use mathlib.Core.Path.{◌≡◌, refl}
use mathlib.Core.Bool.{true}
use Prim.Native.Nat.{ℕ}
use mathlib.Core.List.{List, [], ◌∷◌}
use native.Mathlib.Omega.{arith}
use lib.Dec.{lit≤}
use lib.ListN.{length}
use Rattle.base.specs.Masks.{has_bit, with_bit, without_bit}
use Rattle.place.specs.Places.{place_of, found_of}
use Rattle.op.specs.Words.{word}
use Rattle.op.specs.Ops as op
use Rattle.machine.specs.Machine.{State, World, run_words}
use Rattle.machine.specs.Calls.{function, Keeps}
use Rattle.moves.specs.Moves.{turns, moves, move_words}
use Rattle.alloc.specs.State.{mask_of, fresh_of}
use Rattle.alloc.specs.Allocation as alloc
use Rattle.input.specs.Layout.{head_field, value_field, block_field, instr_field, edge_field, constant_field, pool_at, list_at}
use Rattle.input.specs.Records.{operands_of}
use Rattle.input.specs.Forms.{head_ok, value_ok, instr_forms, instr_ok, term_forms, term_ok, block_ok, constant_ok, each, words_ok}
use Rattle.rows.specs.Rows.{instr, instr_rows, block_rows, rows_from, every, over_rows, refs, row_defs, defined, row_in, InUse}
use Rattle.shape.specs.Counts.{row_count, block_counts, instr_counts, counts_ok}
use Rattle.shape.specs.Shape.{params_shape, instr_shape, edge_shape, none_live, term_shape, shape_ok}
use Rattle.fit.specs.Intervals.{once, fit_def, fit_defs, fit_use, fit_uses, fit_args, fit_edges, fit_row}
use Rattle.assign.specs.Steps.{pins, places, notes, hints, edge_hints, edges_hints, row_steps}
use Rattle.assign.specs.Walk.{hint_for, place_step, pin_step, note_step, hint_step, step, run, pool_of, first_hints, begin, assigned, slots_made, all_placed, slots_ok}
use Rattle.sharing.specs.Sharing.{Given, RowIs}
use Rattle.ready.specs.Ready.{InstrOf}
use Rattle.lower.specs.Operands.{dest_reg}
use Rattle.calls.specs.Calls.{masked_from}
use Rattle.calls_proof.specs.CallsRight.{before_call, after_call}
use Rattle.calls_kept.specs.CallsKept.{calls_function}
use Rattle.calls_kept.proofs.Shown.{Walked, Emits, Shown, shown, keeps_so}
use Rattle.calls_kept.proofs.Theorem.{calls-kept}

abbrev unread : List ℕ
unread =
    -- function 1: 2 values, 1 block, 1 instruction, no edge, 1 word of the pool
    1 ∷ 0 ∷ 0 ∷ 2 ∷ 1 ∷ 1 ∷ 0 ∷ 0 ∷ 1 ∷ 20 ∷ 34 ∷ 42 ∷ 42 ∷ 42 ∷
    -- values: the parameter ends at row 2, the result where it starts
    0 ∷ 2 ∷ 0 ∷ 1 ∷ 1 ∷ 0 ∷
    -- block 0, parameter 0, a call: return 0
    0 ∷ 0 ∷ 0 ∷ 1 ∷ 0 ∷ 1 ∷ 1 ∷ 0 ∷ 0 ∷ 1 ∷ 0 ∷ 0 ∷ 0 ∷ 0 ∷
    -- the call of function 1 with 0, to value 1
    3 ∷ 0 ∷ 2 ∷ 0 ∷ 1 ∷ 1 ∷ 0 ∷ 0 ∷
    -- the pool
    0 ∷ []

abbrev map : List ℕ
map = 1 ∷ 2 ∷ []

unread-walked : Walked 22 unread 1 map 1
unfolding assigned begin first_hints pool_of run step place_step pin_step note_step hint_step hint_for pins places notes hints edge_hints edges_hints row_steps over_rows rows_from block_rows instr_rows head_field value_field block_field instr_field edge_field pool_at list_at alloc.place_of alloc.map_after_place alloc.map_entered alloc.new_place alloc.enter alloc.take_of alloc.from_pool alloc.last_free alloc.hinted alloc.take_reg alloc.take_slot alloc.is_free alloc.expire_of alloc.kept_of alloc.gone_of alloc.release_all alloc.release alloc.free_reg alloc.free_slot alloc.pin_of alloc.map_after_pin alloc.live_after fresh_of mask_of found_of place_of has_bit with_bit without_bit
unread-walked = record { places = refl; noted = refl }

no_slots : slots_made 22 unread ≡ 0
unfolding assigned begin first_hints pool_of run step place_step pin_step note_step hint_step hint_for pins places notes hints edge_hints edges_hints row_steps over_rows rows_from block_rows instr_rows head_field value_field block_field instr_field edge_field pool_at list_at alloc.place_of alloc.map_after_place alloc.map_entered alloc.new_place alloc.enter alloc.take_of alloc.from_pool alloc.last_free alloc.hinted alloc.take_reg alloc.take_slot alloc.is_free alloc.expire_of alloc.kept_of alloc.gone_of alloc.release_all alloc.release alloc.free_reg alloc.free_slot alloc.pin_of alloc.map_after_pin alloc.live_after fresh_of mask_of found_of place_of has_bit with_bit without_bit
no_slots = refl

unread_slots : slots_ok 22 unread ≡ true
unfolding all_placed over_rows row_defs refs rows_from block_rows instr_rows head_field block_field instr_field pool_at list_at
unread_slots = rw unread-walked.places

unread-given : Given 22 unread
unfolding words_ok head_ok value_ok instr_forms instr_ok term_forms term_ok block_ok constant_ok each constant_field counts_ok row_count block_counts instr_counts shape_ok params_shape instr_shape edge_shape none_live term_shape every once defined row_in fit_def fit_defs fit_use fit_uses fit_args fit_edges fit_row over_rows row_defs refs rows_from block_rows instr_rows head_field value_field block_field instr_field edge_field pool_at list_at
unread-given = record { words = refl; counts = refl; shape = refl; once = refl; intervals = refl; places = unread_slots }

-- instruction 0 of block 0, at row 1, with one argument
in_block : InstrOf unread 0 0
unfolding head_field block_field
in_block = record { block = record { there = lit≤ tt; is = refl }; from = lit≤ tt; until = lit≤ tt }

call-row : RowIs unread 1 (instr 0)
unfolding rows_from block_rows instr_rows head_field block_field
call-row = record { within = lit≤ tt; is = refl }

arguments : operands_of unread 0 ≡ 0 ∷ []
unfolding head_field instr_field pool_at list_at
arguments = refl

parameter_in_use : InUse unread 0 1
unfolding defined row_in over_rows row_defs refs rows_from block_rows instr_rows head_field value_field block_field instr_field pool_at list_at
parameter_in_use = record { is = refl; from = lit≤ tt; until = lit≤ tt }

-- the parameter is where the argument goes; it is pushed, and popped behind the move of the result
abbrev before : List ℕ
before = word (op.push 0) ∷ []

abbrev after : List ℕ
after = word (op.mov 1 0) ∷ word (op.pop 0) ∷ []

unread_emits : Emits 22 unread function 0 1 map 1 before after
unfolding before_call after_call dest_reg masked_from has_bit turns moves move_words head_field instr_field pool_at list_at
unread_emits = record { ahead = refl; behind = refl }

-- the argument arrived, the result goes to register 1, and the parameter is in register 0 as it was
pub record UnreadKept (w : World) (st st'' : State) : Type 0 where
  pub argument : (run_words w before st).regs 0 ≡ st.regs 0
  pub given : (run_words w after st'').regs 1 ≡ st''.regs 0
  pub parameter : (run_words w after st'').regs 0 ≡ st.regs 0
  pub height : length (run_words w after st'').stack ≡ length st.stack

module _ (w : World) (st st'' : State) (keeps : Keeps 22 function 1 (run_words w before st) st'') where
  kept : Shown unread map before after 0 1 1 w st st''
  unfolding head_field instr_field
  kept =
      shown unread-walked unread_emits 1 w st st''
      (calls-kept 22 (lit≤ tt) (lit≤ tt) unread unread-given 0 0 1 1 in_block call-row refl function (calls_function refl) w st st''
      (omega (arith, no_slots)) (keeps_so unread-walked unread_emits 1 w st st'' (rw arguments keeps)))

  pub unread-kept : UnreadKept w st st''
  unfolding head_field instr_field pool_at list_at
  unread-kept =
      record {
        argument = kept.arrived 0 (lit≤ tt);
        given = kept.result;
        parameter = kept.in_use 0 parameter_in_use (λ e. omega (arith, e));
        height = kept.height_kept;
      }
