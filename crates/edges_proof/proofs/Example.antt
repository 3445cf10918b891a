-- The loop whose two parameters trade places on the way back, on a machine with 22 registers: they have registers 0 and 1, so its edge trades
-- these through SCRATCH, register 21.
use mathlib.Core.Path.{◌≡◌, refl, ◌∙◌, ap, subst}
use Prim.Native.Nat.{ℕ, ◌+◌, ◌≤◌, ◌<◌}
use mathlib.Core.List.{List, [], ◌∷◌}
use mathlib.Core.Bool.{false}
use native.Mathlib.Omega.{arith}
use borrow.Author.Tests.{ne_eqb}
use lib.Dec.{lit≤}
use lib.ListN.{length, get_or}
use Rattle.base.specs.Lists.{among}
use Rattle.op.specs.Words.{word}
use Rattle.op.specs.Ops as op
use Rattle.machine.specs.Machine.{State, World, run_words}
use Rattle.moves.specs.Moves.{swap_remove, turn_ops, turn_sources, turn_destinations, turns, moves, move_words}
use Rattle.input.specs.Layout.{head_field, value_field, block_field, edge_field, pool_at, list_at}
use Rattle.assign.specs.Walk.{assigned}
use Rattle.sharing.proofs.Example.{loop, loop-given, loop-places}
use Rattle.ready.specs.Ready.{EdgeOf}
use Rattle.edges.specs.Edges.{edge_sources, edge_destinations}
use Rattle.edges_proof.specs.EdgesRight.{edge_words, EdgeMoved}
use Rattle.edges_proof.proofs.Theorem.{edges_theorem}

-- edge 2 goes from block 1 back to it
abbrev back : ℕ
back = 2

back-edge : EdgeOf loop 1 back
unfolding head_field block_field
back-edge = record { block = record { there = lit≤ tt; is = refl }; from = lit≤ tt; until = lit≤ tt }

abbrev places : List ℕ
places = 1 ∷ 2 ∷ 1 ∷ 2 ∷ 3 ∷ 1 ∷ []

abbrev trade : List ℕ
trade = word (op.mov 21 1) ∷ word (op.mov 1 0) ∷ word (op.mov 0 21) ∷ []

words_by-places : edge_words 22 loop places back ≡ trade
unfolding edge_words edge_sources edge_destinations swap_remove turn_ops turn_sources turn_destinations turns moves move_words head_field value_field block_field edge_field pool_at list_at
words_by-places = refl

pub back_words : edge_words 22 loop (assigned 22 loop).map back ≡ trade
back_words = ap (λ (m : List ℕ). edge_words 22 loop m back) loop-places.0 ∙ words_by-places

-- its destinations are registers 0 and 1
past : (x : ℕ) → 2 ≤ x → among x (edge_destinations loop places back) ≡ false
unfolding edge_destinations head_field value_field block_field edge_field pool_at list_at
past x h = rw (ne_eqb x 0 (λ e. omega (arith, e)), ne_eqb x 1 (λ e. omega (arith, e)))

-- from any state
module _ (w : World) (st : State) where
  back-moved : EdgeMoved 22 loop places back st (run_words w trade st)
  back-moved =
      subst (λ (l : List ℕ). EdgeMoved 22 loop places back st (run_words w l st)) words_by-places
      (subst (λ (m : List ℕ). EdgeMoved 22 loop m back st (run_words w (edge_words 22 loop m back) st)) loop-places.0
      ((edges_theorem 22 (lit≤ tt) (lit≤ tt)).right loop loop-given 1 back back-edge w st (omega (arith, loop-places.1))))

  -- the two registers are traded, the other registers of the pool and the stack are as they were
  pub record Traded : Type 0 where
    pub first : (run_words w trade st).regs 0 ≡ st.regs 1
    pub second : (run_words w trade st).regs 1 ≡ st.regs 0
    pub register : (r : ℕ) → 2 ≤ r → r < 20 → (run_words w trade st).regs r ≡ st.regs r
    pub slot : (k : ℕ) → get_or (run_words w trade st).stack k 0 ≡ get_or st.stack k 0
    pub height : length (run_words w trade st).stack ≡ length st.stack

  pub traded : Traded
  unfolding head_field value_field block_field edge_field pool_at list_at
  traded =
      record {
        first = back-moved.arrived 0 (lit≤ tt) refl;
        second = back-moved.arrived 1 (lit≤ tt) refl;
        register = λ r h k.
            back-moved.register_kept r (omega arith) (λ e. omega (arith, e)) (λ e. omega (arith, e)) (past r h);
        slot = λ k. back-moved.slot_kept k (past (256 + k) (omega arith));
        height = back-moved.height_kept;
      }
