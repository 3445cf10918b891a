-- Every call of a function with its places: arguments and result arrive, and what is in use past it is kept.
use mathlib.Core.Path.{◌≡◌, refl}
use mathlib.Core.Logic.{◌≢◌}
use mathlib.Core.Bool.{true}
use Prim.Native.Nat.{ℕ, suc, ◌+◌, ◌-◌, ◌≤◌, ◌<◌}
use mathlib.Core.List.{List}
use native.Mathlib.Omega.{arith}
use borrow.Author.Tests.{eq-eqb, ltb-true, lt-ltb, le-ltb}
use lib.Dec.{eqb}
use lib.ListN.{length, get_or}
use Rattle.base.proofs.Numbers.{pick-both}
use Rattle.place.specs.Places.{slots_from}
use Rattle.machine.specs.Machine.{State, World, run_words, holds}
use Rattle.machine.specs.Calls.{Kind, Keeps}
use Rattle.input.specs.Records.{destination, operands_of, instr_kind, call, sys}
use Rattle.rows.specs.Rows.{instr, InUse}
use Rattle.assign.specs.Steps.{is_call}
use Rattle.assign.specs.Walk.{assigned, place_word, slots_made}
use Rattle.sharing.specs.Sharing.{Given, Held, in_register, in_slot, RowIs, NoSharing}
use Rattle.sharing.proofs.Theorem.{sharing}
use Rattle.sharing.proofs.Whole.{whole_safe}
use Rattle.ready.specs.Ready.{InstrOf}
use Rattle.calls_proof.specs.CallsRight.{Called, CallRight}
use Rattle.calls_proof.proofs.Theorem.{calls_theorem}
use Rattle.edges_proof.proofs.Placed.{held_ok}
use Rattle.calls_kept.specs.CallsKept.{Calls, calls_function, calls_builtin, place_in, ops_before, ops_after, CallKept, CallsKeptTheorem}
use Rattle.calls_kept.proofs.Row.{result-held, noted_in_pool, noted-not-result, defined-before, in_use_apart}
use Rattle.calls_kept.proofs.Uses.{operand_in_use, operands_few}

calls_is : (ws : List ℕ) (i : ℕ) (kind : Kind) → Calls ws i kind → is_call ws i ≡ true
calls_is ws i kind (calls_function e) = rw (eq-eqb (instr_kind ws i) call e)
calls_is ws i kind (calls_builtin e) = rw (eq-eqb (instr_kind ws i) sys e) (pick-both (λ b. b ≡ true) (eqb (instr_kind ws i) call) true true refl refl)

-- a word of a place is one more than a register's number, or than a slot's
word_of : (n : ℕ) (ws : List ℕ) (x k : ℕ) → Held n ws x → k ≡ x - 1 → x ≡ 1 + k
word_of n ws x k (in_register r h) e = omega (arith, e)
word_of n ws x k (in_slot j h l) e = omega (arith, e)

-- what a place holds is kept where a register of the pool is, and a slot is
kept-place : (n : ℕ) (ws : List ℕ) (x : ℕ) (st st' : State) → n ≤ 64 → Held n ws x
    → ((k : ℕ) → k < n - 2 → x ≡ 1 + k → st'.regs k ≡ st.regs k)
    → ((k : ℕ) → x ≡ 257 + k → get_or st'.stack k 0 ≡ get_or st.stack k 0)
    → holds st' (x - 1) ≡ holds st (x - 1)
kept-place n ws x st st' most (in_register r h) register slot =
    let e : 1 + r - 1 ≡ r = omega arith in
    let l : r < n - 2 = ltb-true r (n - 2) h in
    rw (e, lt-ltb r slots_from (omega arith)) (register r l refl)
kept-place n ws x st st' most (in_slot k h l) register slot =
    let e : 257 + k - 1 ≡ 256 + k = omega arith in
    let f : 256 + k - slots_from ≡ k = omega arith in
    rw (e, le-ltb (256 + k) slots_from (omega arith), f) (slot k refl)

module _ (n : ℕ) (lo : 22 ≤ n) (hi : n ≤ 64) (ws : List ℕ) (g : Given n ws) (b i v r : ℕ) (o : InstrOf ws b i) (at : RowIs ws r (instr i))
    (dst : destination ws i ≡ suc v) (kind : Kind) (calls : Calls ws i kind) where
  abbrev noted : ℕ
  noted = get_or (assigned n ws).noted v 0

  is : is_call ws i ≡ true
  is = calls_is ws i kind calls

  places : NoSharing n ws
  places = sharing n lo hi ws g

  result : Held n ws (place_word n ws v)
  result = result-held n ws g i r at is v dst

  called : (st : State) → slots_made n ws ≤ length st.stack → Called n (slots_made n ws) (assigned n ws).map (operands_of ws i) noted (place_in n ws v) st
  called st high =
      record {
        few = operands_few ws b i o n g.counts g.shape kind calls;
        placed = λ k l.
            let u = operand_in_use ws b i o g.intervals k l in
            held_ok n ws (place_word n ws (get_or (operands_of ws i) k 0)) hi (places.placed (get_or (operands_of ws i) k 0) u.0 u.1);
        result = held_ok n ws (place_word n ws v) hi result;
        stands_in_pool = λ k h. lt-ltb k (n - 2) (noted_in_pool n ws g i r at is v dst k h);
        not_result = λ k h e. noted-not-result n ws g i r at is v dst hi k h (word_of n ws (place_word n ws v) k result e);
        few_slots = (whole_safe n ws g.once).good.capped;
        on_stack = high;
      }

  module _ (w : World) (st st'' : State) (high : slots_made n ws ≤ length st.stack)
      (keeps : Keeps n kind (length (operands_of ws i)) (run_words w (ops_before n ws kind i v) st) st'') where
    right : CallRight n kind (assigned n ws).map (operands_of ws i) noted (place_in n ws v) w st st''
    right =
        (calls_theorem n lo hi).right kind (slots_made n ws) (assigned n ws).map (operands_of ws i) noted (place_in n ws v) w st st'' (called st high) keeps

    in-use-kept : (x : ℕ) → InUse ws x r → x ≢ v → holds (run_words w (ops_after n ws kind i v) st'') (place_in n ws x) ≡ holds st (place_in n ws x)
    in-use-kept x used ne =
        let h : Held n ws (place_word n ws x) = places.placed x r used in
        kept-place n ws (place_word n ws x) st (run_words w (ops_after n ws kind i v) st'') hi h
        (λ k l e.
        right.register_kept k
        (places.notes i v r at is dst k (omega arith)
        (record { value = x; in_use = used; before = defined-before n ws g i r at is v dst x used ne; there = e })))
        (λ k e.
        right.slot_kept k
        (λ q.
        let f : place_word n ws x ≡ place_word n ws v = omega (arith, e, word_of n ws (place_word n ws v) (slots_from + k) result q) in
        in_use_apart n ws g i r at is v dst x used ne f))

    kept : CallKept n ws kind i v r w st st''
    kept =
        record {
          arrived = right.arrived;
          result = right.result;
          in_use = in-use-kept;
          slot_kept = right.slot_kept;
          height_kept = right.height_kept;
        }

pub calls-kept : CallsKeptTheorem
calls-kept n lo hi ws g b i v r o at dst kind calls w st st'' high keeps = kept n lo hi ws g b i v r o at dst kind calls w st st'' high keeps
