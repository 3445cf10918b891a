-- Demand 3 of the loop as it is compiled: its call stands at pc 0 and keeps both parameters, the moves of its edge back stand at pc 5 and trade
-- them, and block 1 comes again.
use mathlib.Core.Path.{◌≡◌, refl, sym, ap, ◌∙◌, subst}
use mathlib.Core.Bool.{Bool, true, false}
use Prim.Native.Nat.{ℕ, zero, suc, ◌+◌, ◌≤◌, ◌<◌}
use mathlib.Core.List.{List, [], ◌∷◌, ◌++◌}
use native.Mathlib.Omega.{arith}
use borrow.Author.Tests.{ltb-true, ne_eqb}
use lib.Dec.{ltb, lit≤}
use lib.ListN.{length, get_or}
use Rattle.base.specs.Choice.{pick}
use Rattle.base.specs.Emission.{Out}
use Rattle.base.specs.Lists.{among}
use Rattle.base.specs.Masks.{has_bit}
use Rattle.place.specs.Places.{slots_from}
use Rattle.op.specs.declared.Op.{Op}
use Rattle.op.specs.Words.{word}
use Rattle.op.specs.Ops as op
use Rattle.machine.specs.Machine.{State, World, run_words}
use Rattle.machine.specs.Calls.{function, Keeps}
use Rattle.moves.specs.Moves.{swap_remove, turn_ops, turn_sources, turn_destinations, turns, moves, move_words}
use Rattle.input.specs.Layout.{head_field, value_field, block_field, instr_field, edge_field, pool_at, list_at}
use Rattle.input.specs.Records as in_words
use Rattle.input.specs.Records.{term_kind}
use Rattle.input.proofs.Chain.{both-parts}
use Rattle.assign.specs.Walk.{assigned}
use Rattle.sharing.proofs.Example.{loop}
use Rattle.ready.specs.Ready.{Live, EdgeOf}
use Rattle.lower.specs.Operands.{dest_reg}
use Rattle.edges.specs.Edges.{edge_sources, edge_destinations}
use Rattle.calls.specs.Calls.{masked_from, called_as}
use Rattle.instrs.specs.Instrs.{Env}
use Rattle.terms.specs.Terms.{term_place}
use Rattle.calls_proof.specs.CallsRight.{before_call, after_call}
use Rattle.edges_proof.specs.EdgesRight.{edge_words, EdgeMoved}
use Rattle.calls_kept.specs.CallsKept.{calls_function, ops_before, ops_after}
use Rattle.calls_kept.proofs.Instance.{call-row, no_arguments, first_in_use, second_in_use}
use Rattle.calls_kept.proofs.Shown.{Walked, Emits, Shown, shown, keeps_so, ops-before, ops-after}
use Rattle.layout.specs.Layout.{Stands, GoesTo, block_pc, EdgeAt, Fetched, there, loaded, BranchOp, on_false, on_other, on_unequal, BranchAt, BlockAt}
use Rattle.compile.specs.Compile.{env_of, final_out, compiled}
use Rattle.demand3.specs.Demand3.{ops_of, slots_of, heads_of, lookups_of, places_left, saved_by, called_op, CallAt, Right, Words}
use Rattle.demand3.proofs.Theorem.{demand_3}
use Rattle.demand3.proofs.Computed.{room, empty, map, loop-places, trade, ops, final_ops, first_pc, loop-done}

-- its words are words
abbrev all_low : List ℕ → Bool
all_low [] = true
all_low (x ∷ xs) = pick (ltb x 4294967296) (all_low xs) false

low_at : (xs : List ℕ) → all_low xs ≡ true → (k : ℕ) → get_or xs k 0 < 4294967296
low_at [] h k = lit≤ tt
low_at (x ∷ xs) h zero = ltb-true x 4294967296 (both-parts (ltb x 4294967296) (all_low xs) h).0
low_at (x ∷ xs) h (suc k) = low_at xs (both-parts (ltb x 4294967296) (all_low xs) h).1 k

loop_low : Words loop
loop_low = low_at loop refl

-- ---- the theorem
right : Right 32 loop room empty
right = demand_3 32 (lit≤ tt) (lit≤ tt) loop loop_low room empty loop-done

listed : ops_of 32 loop room empty ≡ ops
listed = right.ops_are ∙ final_ops

placed : places_left 32 loop room empty ≡ map
placed = right.places_are ∙ loop-places.0

live : Live loop 1
unfolding head_field block_field
live = record { there = lit≤ tt; is = refl }

block : BlockAt 32 (env_of 32 loop room empty) (saved_by 32 loop) (final_out 32 loop room empty) (slots_of 32 loop room empty) (heads_of 32 loop room empty) (lookups_of 32 loop room empty) 1
block = right.blocks 1 live

-- ---- the edge back, edge 2
back-edge : EdgeOf loop 1 2
unfolding head_field block_field
back-edge = record { block = live; from = lit≤ tt; until = lit≤ tt }

words_by : edge_words 32 loop map 2 ≡ trade
unfolding edge_words edge_sources edge_destinations swap_remove turn_ops turn_sources turn_destinations turns moves move_words head_field value_field block_field edge_field pool_at list_at
words_by = refl

back_words : edge_words 32 loop (assigned 32 loop).map 2 ≡ trade
back_words = ap (λ (m : List ℕ). edge_words 32 loop m 2) loop-places.0 ∙ words_by

-- ---- the call, instruction 0: both parameters are pushed; the result goes to register 2, and both are popped
abbrev before : List ℕ
before = word (op.push2 0 1) ∷ []

abbrev after : List ℕ
after = word (op.mov 2 0) ∷ word (op.pop2 1 0) ∷ []

walked : Walked 32 loop 4 map 3
walked = record { places = loop-places.0; noted = ap (λ (l : List ℕ). get_or l 4 0) loop-places.1 }

emits : Emits 32 loop function 0 4 map 3 before after
unfolding before_call after_call dest_reg masked_from has_bit turns moves move_words head_field instr_field list_at
emits = record { ahead = refl; behind = refl }

called : CallAt 32 loop room empty (ops_of 32 loop room empty) function 0 4 (block.at 0) (block.at 1)
unfolding block head_field block_field instr_field
called = right.calls 1 0 4 live (lit≤ tt) refl function (calls_function refl)

abbrev call_words : ℕ → List ℕ
call_words op = before ++ (op ∷ after)

call_is : called_op 32 loop room empty function 0 ≡ word (op.call 0)
unfolding called_as head_field instr_field
call_is = refl

call_words_lem : ops_before 32 loop function 0 4 ++ (called_op 32 loop room empty function 0 ∷ ops_after 32 loop function 0 4) ≡ call_words (word (op.call 0))
call_words_lem = rw (ops-before walked emits, ops-after walked emits, call_is)

-- block 1 starts at pc 0, and its terminator at pc 4
starts : block.at 0 ≡ 0
starts = block.starts ∙ first_pc

ends : block.at 1 ≡ 4
ends = sym called.until ∙ rw (call_words_lem, starts)

branch : BranchAt 32 (env_of 32 loop room empty) (final_out 32 loop room empty) 1 (block.at 1)
unfolding head_field block_field
branch = block.term.branch (lit≤ tt) (lit≤ tt)

-- it reads register 2, so nothing is fetched, and the jump stands there
none_fetched : {n : ℕ} {out : Out} {p reg pc at : ℕ} → Fetched n out p reg pc at → p < slots_from → at ≡ pc
none_fetched (there h e) g = refl
none_fetched (loaded h s e) g = absurd (omega arith)

condition_there : {n : ℕ} {env : Env} {out : Out} {b pc at : ℕ} {jump : Op} → BranchOp n env out b pc at jump → term_kind env.ws b ≡ in_words.branch
    → term_place env.ws env.places b 0 < slots_from → at ≡ pc
condition_there (on_false c k f) e h = none_fetched f h
condition_there (on_other l k f) e h = absurd (omega arith)
condition_there (on_unequal l r mid k f g d) e h = absurd (omega arith)

condition : term_place loop (assigned 32 loop).map 1 0 ≡ 2
unfolding head_field block_field pool_at list_at
condition = ap (λ (m : List ℕ). term_place loop m 1 0) loop-places.0

branch_at : branch.at ≡ 4
unfolding head_field block_field
branch_at = condition_there branch.by refl (omega (arith, condition)) ∙ ends

yes : EdgeAt 32 (env_of 32 loop room empty) (final_out 32 loop room empty) 2 5
unfolding head_field block_field
yes = let e : branch.at + 1 ≡ 5 = omega (arith, branch_at) in rw e at branch.yes

goes_on_lem : GoesTo (final_out 32 loop room empty) 1 8
unfolding head_field edge_field
goes_on_lem = subst (λ (l : List ℕ). GoesTo (final_out 32 loop room empty) 1 (5 + length l)) back_words yes.on

-- ---- what the moves do, from any state: registers 0 and 1 are traded, the other registers of the pool and the stack are as they were
pub record Traded (st st' : State) : Type 0 where
  pub first : st'.regs 0 ≡ st.regs 1
  pub second : st'.regs 1 ≡ st.regs 0
  pub register : (r : ℕ) → 2 ≤ r → r < 30 → st'.regs r ≡ st.regs r
  pub slot : (k : ℕ) → get_or st'.stack k 0 ≡ get_or st.stack k 0
  pub height : length st'.stack ≡ length st.stack

past : (x : ℕ) → 2 ≤ x → among x (edge_destinations loop map 2) ≡ false
unfolding edge_destinations head_field value_field block_field edge_field pool_at list_at
past x h = rw (ne_eqb x 0 (λ e. omega (arith, e)), ne_eqb x 1 (λ e. omega (arith, e)))

module _ (w : World) (st : State) where
  moved : EdgeMoved 32 loop map 2 st (run_words w trade st)
  moved =
      subst (λ (l : List ℕ). EdgeMoved 32 loop map 2 st (run_words w l st)) words_by
      (subst (λ (m : List ℕ). EdgeMoved 32 loop m 2 st (run_words w (edge_words 32 loop m 2) st)) placed
      (right.edges 1 2 back-edge w st (omega (arith, loop-places.2))))

  trades : Traded st (run_words w trade st)
  unfolding head_field value_field block_field edge_field pool_at list_at
  trades =
      record {
        first = moved.arrived 0 (lit≤ tt) refl;
        second = moved.arrived 1 (lit≤ tt) refl;
        register = λ r h k. moved.register_kept r (omega arith) (λ e. omega (arith, e)) (λ e. omega (arith, e)) (past r h);
        slot = λ k. moved.slot_kept k (past (256 + k) (omega arith));
        height = moved.height_kept;
      }

-- ---- what the call keeps, whatever the function hands back, if it keeps what a function keeps: the result is in register 2, and registers 0
-- and 1 and the stack are as they were
pub record Kept (st st'' st''' : State) : Type 0 where
  pub given : st'''.regs 2 ≡ st''.regs 0
  pub first : st'''.regs 0 ≡ st.regs 0
  pub second : st'''.regs 1 ≡ st.regs 1
  pub slot : (k : ℕ) → get_or st'''.stack k 0 ≡ get_or st.stack k 0
  pub height : length st'''.stack ≡ length st.stack

module _ (w : World) (st st'' : State) (keeps : Keeps 32 function 0 (run_words w before st) st'') where
  is_shown : Shown loop map before after 0 4 3 w st st''
  unfolding head_field block_field instr_field
  is_shown =
      shown walked emits 3 w st st''
      (right.kept 1 0 4 3 live (lit≤ tt) call-row refl function (calls_function refl) w st st'' (omega (arith, loop-places.2))
      (keeps_so walked emits 3 w st st'' (rw no_arguments keeps)))

  keeps_both : Kept st st'' (run_words w after st'')
  keeps_both =
      record {
        given = is_shown.result;
        first = is_shown.in_use 2 first_in_use (λ e. omega (arith, e));
        second = is_shown.in_use 3 second_in_use (λ e. omega (arith, e));
        slot = λ k. is_shown.slot_kept k (λ e. omega (arith, e));
        height = is_shown.height_kept;
      }

-- ---- all of it
pub record LoopRight : Type 0 where
  pub done : (compiled 32 loop room empty).number ≡ 0
  pub ops_are : ops_of 32 loop room empty ≡ ops
  pub places_are : places_left 32 loop room empty ≡ map
  -- block 1 starts with the call
  pub first_at : block_pc (final_out 32 loop room empty) 1 ≡ 0
  pub call : Stands (ops_of 32 loop room empty) 0 (call_words (word (op.call 0)))
  pub kept : (w : World) (st st'' : State) → Keeps 32 function 0 (run_words w before st) st'' → Kept st st'' (run_words w after st'')
  -- the edge back, behind the branch, and block 1 again behind it
  pub back : Stands (ops_of 32 loop room empty) 5 trade
  pub trades_both : (w : World) (st : State) → Traded st (run_words w trade st)
  pub on : GoesTo (final_out 32 loop room empty) 1 8

pub loop_right : LoopRight
loop_right =
    record {
      done = loop-done;
      ops_are = listed;
      places_are = placed;
      first_at = first_pc;
      call = subst (λ (k : ℕ). Stands (ops_of 32 loop room empty) k (call_words (word (op.call 0)))) starts
          (subst (λ (l : List ℕ). Stands (ops_of 32 loop room empty) (block.at 0) l) call_words_lem called.stands);
      kept = keeps_both;
      back = subst (λ (l : List ℕ). Stands l 5 trade) (sym right.ops_are)
          (subst (λ (l : List ℕ). Stands (final_out 32 loop room empty).ops 5 l) back_words yes.moves);
      trades_both = trades;
      on = goes_on_lem;
    }
