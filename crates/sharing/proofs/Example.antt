-- A loop whose two parameters trade places on the way back: block 1 has parameters 2 and 3, and its edge to itself gives 3 and 2. Both are in
-- use at the call between, so they have different places, and the call notes both registers.
use Prim.Native.Nat.{ℕ}
use mathlib.Core.Bool.{true}
use mathlib.Core.List.{List, [], ◌∷◌}
use mathlib.Core.Path.{◌≡◌, refl, ap}
use native.Mathlib.Omega.{arith}
use lib.Dec.{lit≤}
use lib.ListN.{get_or}
use Rattle.base.specs.Masks.{has_bit, with_bit, without_bit}
use Rattle.place.specs.Places.{place_of, found_of}
use Rattle.alloc.specs.State.{mask_of, fresh_of}
use Rattle.alloc.specs.Allocation as alloc
use Rattle.input.specs.Layout.{head_field, value_field, block_field, instr_field, edge_field, constant_field, pool_at, list_at}
use Rattle.input.specs.Forms.{head_ok, value_ok, instr_forms, instr_ok, term_forms, term_ok, block_ok, constant_ok, each, words_ok}
use Rattle.rows.specs.Rows.{instr, instr_rows, block_rows, rows_from, every, over_rows, refs, row_defs, defined, row_in, InUse}
use Rattle.shape.specs.Counts.{row_count, block_counts, instr_counts, counts_ok}
use Rattle.shape.specs.Shape.{params_shape, instr_shape, edge_shape, none_live, term_shape, shape_ok}
use Rattle.fit.specs.Intervals.{once, once_ok, fit_def, fit_defs, fit_use, fit_uses, fit_args, fit_edges, fit_row, intervals_ok}
use Rattle.assign.specs.Steps.{is_call, pins, places, notes, hints, edge_hints, edges_hints, row_steps}
use Rattle.assign.specs.Walk.{hint_for, place_step, pin_step, note_step, hint_step, step, run, pool_of, first_hints, begin, assigned, place_word, slots_made, all_placed, slots_ok}
use Rattle.sharing.specs.Sharing.{Given, RowIs, NoSharing}
use Rattle.sharing.proofs.Theorem.{sharing}

abbrev pub loop : List ℕ
loop =
    -- function 1: 6 values, 3 blocks, 1 instruction, 3 edges, 8 words of the pool
    1 ∷ 0 ∷ 0 ∷ 6 ∷ 3 ∷ 1 ∷ 3 ∷ 0 ∷ 8 ∷ 32 ∷ 74 ∷ 82 ∷ 91 ∷ 91 ∷
    -- values: start, end, no hint
    0 ∷ 1 ∷ 0 ∷ 0 ∷ 1 ∷ 0 ∷ 2 ∷ 4 ∷ 0 ∷ 2 ∷ 4 ∷ 0 ∷ 3 ∷ 4 ∷ 0 ∷ 5 ∷ 6 ∷ 0 ∷
    -- block 0, parameters 0 and 1: jump to block 1 with 0 and 1
    0 ∷ 0 ∷ 0 ∷ 2 ∷ 0 ∷ 0 ∷ 2 ∷ 0 ∷ 0 ∷ 0 ∷ 0 ∷ 1 ∷ 0 ∷ 0 ∷
    -- block 1, parameters 2 and 3, a call: by value 4 to block 2 with 2, or to block 1 with 3 and 2
    1 ∷ 0 ∷ 2 ∷ 2 ∷ 0 ∷ 1 ∷ 3 ∷ 0 ∷ 6 ∷ 1 ∷ 1 ∷ 2 ∷ 0 ∷ 0 ∷
    -- block 2, parameter 5: return 5
    2 ∷ 0 ∷ 7 ∷ 1 ∷ 1 ∷ 0 ∷ 1 ∷ 0 ∷ 7 ∷ 1 ∷ 3 ∷ 0 ∷ 0 ∷ 0 ∷
    -- the call of function 1, to value 4
    3 ∷ 0 ∷ 5 ∷ 0 ∷ 0 ∷ 1 ∷ 0 ∷ 0 ∷
    -- edges: target, place and count of the arguments
    1 ∷ 0 ∷ 2 ∷ 2 ∷ 2 ∷ 1 ∷ 1 ∷ 4 ∷ 2 ∷
    -- the pool
    0 ∷ 1 ∷ 2 ∷ 3 ∷ 3 ∷ 2 ∷ 4 ∷ 5 ∷ []

loop_words : words_ok loop ≡ true
unfolding words_ok head_ok value_ok instr_forms instr_ok term_forms term_ok block_ok constant_ok each head_field value_field block_field instr_field constant_field
loop_words = refl

loop-counts : counts_ok 22 loop ≡ true
unfolding counts_ok row_count block_counts instr_counts each head_field block_field instr_field
loop-counts = refl

loop_shape : shape_ok loop ≡ true
unfolding shape_ok params_shape instr_shape edge_shape none_live term_shape each every rows_from block_rows instr_rows head_field value_field block_field instr_field edge_field pool_at list_at
loop_shape = refl

loop-once : once_ok loop ≡ true
unfolding once defined over_rows row_defs refs rows_from block_rows instr_rows head_field block_field instr_field pool_at list_at
loop-once = refl

loop_fits : intervals_ok loop ≡ true
unfolding fit_def fit_defs fit_use fit_uses fit_args fit_edges fit_row every defined row_in over_rows row_defs refs rows_from block_rows instr_rows head_field value_field block_field instr_field edge_field pool_at list_at
loop_fits = refl

-- registers 0 and 1 for the parameters, 2 for the call's value, and no slot
pub loop-places : ((assigned 22 loop).map ≡ 1 ∷ 2 ∷ 1 ∷ 2 ∷ 3 ∷ 1 ∷ []) × (slots_made 22 loop ≡ 0)
unfolding assigned begin first_hints pool_of run step place_step pin_step note_step hint_step hint_for pins places notes hints edge_hints edges_hints row_steps over_rows rows_from block_rows instr_rows head_field value_field block_field instr_field edge_field pool_at list_at alloc.place_of alloc.map_after_place alloc.map_entered alloc.new_place alloc.enter alloc.take_of alloc.from_pool alloc.last_free alloc.hinted alloc.take_reg alloc.take_slot alloc.is_free alloc.expire_of alloc.kept_of alloc.gone_of alloc.release_all alloc.release alloc.free_reg alloc.free_slot alloc.pin_of alloc.map_after_pin alloc.live_after fresh_of mask_of found_of place_of has_bit with_bit without_bit
loop-places = (refl, refl)

loop_slots : slots_ok 22 loop ≡ true
unfolding all_placed over_rows row_defs refs rows_from block_rows instr_rows head_field block_field instr_field pool_at list_at
loop_slots = rw loop-places.0

pub loop-given : Given 22 loop
loop-given =
    record {
      words = loop_words;
      counts = loop-counts;
      shape = loop_shape;
      once = loop-once;
      intervals = loop_fits;
      places = loop_slots;
    }

loop_theorem : NoSharing 22 loop
loop_theorem = sharing 22 (lit≤ tt) (lit≤ tt) loop loop-given

-- ---- both parameters are in use at the call, row 3
first_in_use : InUse loop 2 3
unfolding defined row_in over_rows row_defs refs rows_from block_rows instr_rows head_field value_field block_field instr_field pool_at list_at
first_in_use = record { is = refl; from = lit≤ tt; until = lit≤ tt }

second_in_use : InUse loop 3 3
unfolding defined row_in over_rows row_defs refs rows_from block_rows instr_rows head_field value_field block_field instr_field pool_at list_at
second_in_use = record { is = refl; from = lit≤ tt; until = lit≤ tt }

-- so the two that trade places have different ones
pub loop_apart : place_word 22 loop 2 ≡ place_word 22 loop 3 → ⊥
loop_apart e =
    let q : ◌≡◌ {A = ℕ} 2 3 = loop_theorem.apart 2 3 3 first_in_use second_in_use e in
    omega arith

-- and both are saved at the call: registers 0 and 1 are noted
call-row : RowIs loop 3 (instr 0)
unfolding rows_from block_rows instr_rows head_field block_field
call-row = record { within = lit≤ tt; is = refl }

is_call_lem : is_call loop 0 ≡ true
unfolding instr_field head_field
is_call_lem = refl

pub second-noted : has_bit (get_or (assigned 22 loop).noted 4 0) 1 ≡ true
unfolding row_in over_rows row_defs refs rows_from block_rows instr_rows head_field block_field instr_field pool_at list_at
second-noted =
    loop_theorem.notes 0 4 3 call-row is_call_lem refl 1 (lit≤ tt)
    (record { value = 3; in_use = second_in_use; before = lit≤ tt; there = ap (λ (m : List ℕ). get_or m 3 0) loop-places.0 })
