-- The loop whose two parameters trade places on the way back, and which calls itself on the way, compiled on a machine with 32 registers as the
-- first function of a program: 11 ops.
use mathlib.Core.Path.{◌≡◌, refl, ap, ◌∙◌}
use Prim.Native.Nat.{ℕ}
use mathlib.Core.Bool.{true}
use mathlib.Core.List.{List, [], ◌∷◌}
use lib.ListN.{replicate}
use Rattle.base.specs.Emission.{Out, emit, emit_all, at_span, bind}
use Rattle.base.specs.Masks.{has_bit, with_bit, without_bit}
use Rattle.place.specs.Places.{place_of, found_of}
use Rattle.op.specs.Words.{word, parts}
use Rattle.op.specs.Ops as op
use Rattle.op.specs.Targets.{target_of, aimed}
use Rattle.moves.specs.Moves.{swap_remove, turn_ops, turn_sources, turn_destinations, turns, moves, move_words}
use Rattle.alloc.specs.State.{mask_of, fresh_of}
use Rattle.alloc.specs.Allocation as alloc
use Rattle.input.specs.Layout.{head_field, value_field, block_field, instr_field, edge_field, constant_field, pool_at, list_at}
use Rattle.input.specs.Forms.{head_ok, value_ok, instr_forms, instr_ok, term_forms, term_ok, block_ok, constant_ok, each, words_ok}
use Rattle.rows.specs.Rows.{instr_rows, block_rows, rows_from, every, over_rows, refs, row_defs, defined, row_in}
use Rattle.shape.specs.Counts.{row_count, block_counts, instr_counts, counts_ok}
use Rattle.shape.specs.Shape.{params_shape, instr_shape, edge_shape, none_live, term_shape, shape_ok}
use Rattle.fit.specs.Intervals.{once, fit_def, fit_defs, fit_use, fit_uses, fit_args, fit_edges, fit_row}
use Rattle.fit.specs.Callees.{known, row_callee}
use Rattle.fit.specs.Keys.{row_keys}
use Rattle.judge.specs.Judged.{unfit}
use Rattle.assign.specs.Steps.{pins, places, notes, hints, edge_hints, edges_hints, row_steps}
use Rattle.assign.specs.Walk.{hint_for, place_step, pin_step, note_step, hint_step, step, run, pool_of, first_hints, begin, assigned, slots_made, used_below, top_used, all_placed, slots_ok}
use Rattle.placing.specs.Placing.{room_ok as places_fit}
use Rattle.sharing.proofs.Example.{loop}
use Rattle.lower.specs.Operands.{operand_reg, fetched, dest_reg, stored}
use Rattle.edges.specs.Pairs.{move_pairs}
use Rattle.edges.specs.Edges.{edge_sources, edge_destinations, has_moves, jump_to, edge, branch}
use Rattle.calls.specs.Calls.{masked_from, shuffle, call_with, called_as, lower_call}
use Rattle.interning.specs.Interning as interned
use Rattle.tables.specs.Tables as tables
use Rattle.instrs.specs.Instrs.{Env, seen, call_ops, instr_ops, lookups_in, instrs_ops}
use Rattle.terms.specs.Terms.{return_ops, branch_ops, term_ops}
use Rattle.body.specs.Body.{next_live, tallied, block_ops, blocks_ops, root_ret, body_ops}
use Rattle.frame.specs.Frames.{patch, resolved_word, resolve, regs_from, frame_regs, entered, framed}
use Rattle.layout.specs.Layout.{block_pc}
use Rattle.lists.specs.declared.Used.{Used}
use Rattle.lists.specs.Lists.{lists_fit}
use Rattle.assemble.specs.Assemble.{function_out}
use Rattle.first_checks.specs.Buffers.{Buffers, lent}
use Rattle.first_checks.specs.Checks.{used_ok, entry_ok}
use Rattle.compile.specs.Compile.{new_functions, new_lists, start_of, final_out, room_ok, refusal, done_of, compiled}

-- the buffers, all zero, and nothing used
abbrev zeros : ℕ → List ℕ
zeros k = replicate k 0

abbrev pub room : Buffers
room = lent (zeros 16) (zeros 16) [] [] (zeros 2) [] [] [] [] (zeros 6) (zeros 6) (zeros 6) (zeros 15)

abbrev pub empty : Used
empty = record { ops = 0; globals = 0; builtins = 0; switches = 0; targets = 0; lookups = 0; values = 0 }

-- ---- refusals 1 to 7
loop_words : words_ok loop ≡ true
unfolding words_ok head_ok value_ok instr_forms instr_ok term_forms term_ok block_ok constant_ok each head_field value_field block_field instr_field constant_field
loop_words = refl

loop_used : used_ok room empty ≡ true
unfolding used_ok
loop_used = refl

loop-fit : unfit 32 loop (zeros 2) ≡ 0
unfolding unfit words_ok head_ok value_ok instr_forms instr_ok term_forms term_ok block_ok constant_ok each counts_ok row_count block_counts instr_counts shape_ok params_shape instr_shape edge_shape none_live term_shape every rows_from block_rows instr_rows once defined over_rows row_defs refs fit_def fit_defs fit_use fit_uses fit_args fit_edges fit_row row_in known row_callee row_keys head_field value_field block_field instr_field edge_field constant_field pool_at list_at
loop-fit = refl

-- ---- the places: registers 0 and 1 for the parameters, 2 for the call's value, and no slot; registers 0 and 1 are noted at the call
abbrev pub map : List ℕ
map = 1 ∷ 2 ∷ 1 ∷ 2 ∷ 3 ∷ 1 ∷ []

abbrev noted : List ℕ
noted = 0 ∷ 0 ∷ 0 ∷ 0 ∷ 3 ∷ 0 ∷ []

pub loop-places : ((assigned 32 loop).map ≡ map) × ((assigned 32 loop).noted ≡ noted) × (slots_made 32 loop ≡ 0) × (top_used 32 loop ≡ 3)
unfolding used_below assigned begin first_hints pool_of run step place_step pin_step note_step hint_step hint_for pins places notes hints edge_hints edges_hints row_steps over_rows rows_from block_rows instr_rows head_field value_field block_field instr_field edge_field pool_at list_at alloc.place_of alloc.map_after_place alloc.map_entered alloc.new_place alloc.enter alloc.take_of alloc.from_pool alloc.last_free alloc.hinted alloc.take_reg alloc.take_slot alloc.is_free alloc.expire_of alloc.kept_of alloc.gone_of alloc.release_all alloc.release alloc.free_reg alloc.free_slot alloc.pin_of alloc.map_after_pin alloc.live_after fresh_of mask_of found_of place_of has_bit with_bit without_bit
loop-places = (refl, refl, refl, refl)

loop_slots : slots_ok 32 loop ≡ true
unfolding all_placed over_rows row_defs refs rows_from block_rows instr_rows head_field block_field instr_field pool_at list_at
loop_slots = rw loop-places.0

-- ---- the ops
abbrev pub trade : List ℕ
trade = word (op.mov 31 1) ∷ word (op.mov 1 0) ∷ word (op.mov 0 31) ∷ []

abbrev pub ops : List ℕ
ops =
    -- block 0 falls through to block 1, which starts at pc 0: registers 0 and 1 are saved, the function is called, its result goes to register 2
    word (op.push2 0 1) ∷ word (op.call 0) ∷ word (op.mov 2 0) ∷ word (op.pop2 1 0) ∷
    -- to block 2, at pc 9, or the parameters trade places and block 1 comes again
    word (op.jmp_f 2 9) ∷ word (op.mov 31 1) ∷ word (op.mov 1 0) ∷ word (op.mov 0 31) ∷ word (op.jmp 0) ∷
    -- block 2 returns its parameter
    word (op.mov 0 0) ∷ word op.ret ∷ []

abbrev env : List ℕ → List ℕ → Env
env map noted = seen loop map noted (new_functions loop room empty) (new_lists 32 loop room empty).globals (new_lists 32 loop room empty).builtins

-- by places, noted registers, highest register and slots
abbrev out_by_map : List ℕ → List ℕ → ℕ → ℕ → Out
out_by_map map noted top slots = function_out 32 (env map noted) empty top slots (start_of loop room empty)

-- its ops, and the pc of block 1
out_by : ((out_by_map map noted 3 0).ops ≡ ops) × (block_pc (out_by_map map noted 3 0) 1 ≡ 0)
unfolding function_out framed frame_regs regs_from entered body_ops root_ret blocks_ops block_ops tallied next_live term_ops branch_ops return_ops instrs_ops lookups_in instr_ops call_ops lower_call called_as call_with shuffle masked_from branch edge jump_to has_moves edge_sources edge_destinations move_pairs operand_reg fetched dest_reg stored resolve resolved_word patch emit emit_all at_span bind swap_remove turn_ops turn_sources turn_destinations turns moves move_words target_of aimed word parts has_bit head_field value_field block_field instr_field edge_field pool_at list_at
out_by = (refl, refl)

final_by : final_out 32 loop room empty ≡ out_by_map map noted 3 0
unfolding final_out
final_by =
    ap (λ (m : List ℕ). out_by_map m (assigned 32 loop).noted (top_used 32 loop) (slots_made 32 loop)) loop-places.0
    ∙ ap (λ (m : List ℕ). out_by_map map m (top_used 32 loop) (slots_made 32 loop)) loop-places.1
    ∙ ap (λ (k : ℕ). out_by_map map noted (top_used 32 loop) k) loop-places.2
    ∙ ap (λ (k : ℕ). out_by_map map noted k 0) loop-places.3

pub final_ops : (final_out 32 loop room empty).ops ≡ ops
final_ops = ap (λ (o : Out). o.ops) final_by ∙ out_by.0

pub first_pc : block_pc (final_out 32 loop room empty) 1 ≡ 0
first_pc = ap (λ (o : Out). block_pc o 1) final_by ∙ out_by.1

-- ---- no refusal
loop-room : room_ok 32 loop room empty ≡ true
unfolding room_ok places_fit entry_ok lists_fit interned.globals_after interned.strings_interned interned.intern_all interned.row_constants interned.row_loaded interned.builtins_after interned.intern_builtins interned.row_builtins tables.switch_heads_after tables.switch_heads tables.switch_targets_after tables.switch_targets tables.lookup_heads_after tables.blocks_heads tables.lookup_heads tables.lookup_values_after tables.blocks_values tables.lookup_values tables.slots_in over_rows rows_from block_rows instr_rows head_field block_field instr_field
loop-room = rw final_ops

loop_none : refusal 32 loop room empty ≡ 0
unfolding refusal
loop_none = rw (loop_words, loop_used, loop-fit, loop_slots, loop-room)

pub loop-done : (compiled 32 loop room empty).number ≡ 0
unfolding compiled done_of
loop-done = rw loop_none
