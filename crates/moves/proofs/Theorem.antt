-- The theorem on moves: what the rule emits, run on the machine, makes the moves all at once, and the rule ends.
use mathlib.Core.Path.{◌≡◌, refl, sym, ◌∙◌}
use mathlib.Core.Logic.{◌≢◌, ⊎_elim}
use Prim.Native.Nat.{ℕ, zero, suc, ◌+◌, ◌-◌, ◌≤◌, ◌<◌}
use mathlib.Core.List.{List}
use mathlib.Core.Bool.{Bool, true, false}
use native.Mathlib.Nat.{suc-add}
use native.Mathlib.Omega.{arith}
use borrow.Author.Tests.{eq-eqb}
use lib.ListN.{length, get_or}
use Rattle.base.specs.Choice.{pick}
use Rattle.base.specs.Lists.{among}
use Rattle.base.proofs.Numbers.{lt?, pick-both}
use Rattle.place.specs.Registers.{scratch_of, tmp_of}
use Rattle.place.specs.Places.{slots_from}
use Rattle.op.specs.declared.Op.{Op}
use Rattle.machine.specs.Machine.{State, World, run, holds}
use Rattle.machine.proofs.Machine.{run-append, run_words_lem, holds-reg, holds-slot}
use Rattle.moves.specs.Moves.{move_ops, first_ready, swap_remove, park, turns, moves, move_words}
use Rattle.moves.specs.AtOnce.{MovedAtOnce, MovesTheorem}
use Rattle.moves.proofs.Columns.{Each, swap_length, swap_each, park-length, park_at}
use Rattle.moves.proofs.Turns.{turns_ready, turns-park, none_left}
use Rattle.moves.proofs.Checked.{among_at, among-not, Checked, moves_checked, place-within, place_apart}
use Rattle.moves.proofs.Words.{moves-parts}
use Rattle.moves.proofs.Stuck.{ready_is}
use Rattle.moves.proofs.Steps.{Together, Good, ready_good, ready_step, stuck_sc, park_good, park-step}
use Rattle.moves.proofs.Runs.{move-copies}

-- how many turns are left at most: two for each move, and one less while sc is a source
abbrev turns_left : ℕ → List ℕ → List ℕ → ℕ
turns_left sc ss ds = length ds + length ds - pick (among sc ss) 1 0

-- once the first source is parked, sc is a source
park-has : (sc : ℕ) (ss : List ℕ) → 0 < length ss → among sc (park (get_or ss 0 0) sc ss) ≡ true
park-has sc ss h =
    among_at sc (park (get_or ss 0 0) sc ss) 0 (rw park-length h)
    (park_at (get_or ss 0 0) sc ss 0 h ∙ rw (eq-eqb (get_or ss 0 0) (get_or ss 0 0) refl))

module _ (sc tmp : ℕ) (apart : sc ≢ tmp) where
  -- each turn leaves fewer
  ready_less : (ss ds : List ℕ) (i : ℕ) → 0 < length ds → turns_left sc (swap_remove ss i) (swap_remove ds i) < turns_left sc ss ds
  ready_less ss ds i h = rw swap_length (go (among sc (swap_remove ss i)) (among sc ss))
    where
      go : (b b' : Bool) → (length ds - 1) + (length ds - 1) - pick b 1 0 < length ds + length ds - pick b' 1 0
      go true true = omega arith
      go true false = omega arith
      go false true = omega arith
      go false false = omega arith

  park_less : (ss ds : List ℕ) → Good sc tmp ss ds → length ds ≤ first_ready ss ds → 0 < length ds
      → turns_left sc (park (get_or ss 0 0) sc ss) ds < turns_left sc ss ds
  park_less ss ds good h q = rw (park-has sc ss (rw good.long q), stuck_sc sc tmp ss ds good h) (omega arith)

  none_less : (ss ds : List ℕ) → turns_left sc ss ds ≤ 0 → length ds ≡ 0
  none_less ss ds =
      pick-both (λ (x : ℕ). length ds + length ds - x ≤ 0 → length ds ≡ 0) (among sc ss) 1 0 (λ h. omega arith) (λ h. omega arith)

  -- so what holds where no move is left, and is kept by a ready move and by parking, holds with turns enough
  by-turns : (P : ℕ → List ℕ → List ℕ → Type 0)
      → ((f : ℕ) (ss ds : List ℕ) → length ds ≡ 0 → P f ss ds)
      → ((f : ℕ) (ss ds : List ℕ) → Good sc tmp ss ds → first_ready ss ds < length ds
      → P f (swap_remove ss (first_ready ss ds)) (swap_remove ds (first_ready ss ds)) → P (suc f) ss ds)
      → ((f : ℕ) (ss ds : List ℕ) → Good sc tmp ss ds → length ds ≤ first_ready ss ds → 0 < length ds → P f (park (get_or ss 0 0) sc ss) ds → P (suc f) ss ds)
      → (f : ℕ) (ss ds : List ℕ) → Good sc tmp ss ds → turns_left sc ss ds ≤ f → P f ss ds
  by-turns P none ready parks zero ss ds good h = none zero ss ds (none_less ss ds h)
  by-turns P none ready parks (suc f) ss ds good h =
      ⊎_elim
      (λ (q : first_ready ss ds < length ds).
      let i : ℕ = first_ready ss ds in
      ready f ss ds good q
      (by-turns P none ready parks f (swap_remove ss i) (swap_remove ds i) (ready_good sc tmp ss ds good i)
      (omega (arith, ready_less ss ds i (omega arith)))))
      (λ (q : length ds ≤ first_ready ss ds).
      ⊎_elim
      (λ (z : 0 < length ds).
      parks f ss ds good q z
      (by-turns P none ready parks f (park (get_or ss 0 0) sc ss) ds (park_good sc tmp ss ds good apart) (omega (arith, park_less ss ds good q z))))
      (λ (z : length ds ≤ 0). none (suc f) ss ds (omega arith))
      (lt? 0 (length ds)))
      (lt? (first_ready ss ds) (length ds))

  -- turns past those that are needed emit nothing
  enough : (more f : ℕ) (ss ds : List ℕ) → Good sc tmp ss ds → turns_left sc ss ds ≤ f → turns sc tmp (f + more) ss ds ≡ turns sc tmp f ss ds
  enough more =
      by-turns (λ f ss ds. turns sc tmp (f + more) ss ds ≡ turns sc tmp f ss ds)
      (λ f ss ds e. rw (none_left sc tmp (f + more) ss ds e, none_left sc tmp f ss ds e))
      (λ f ss ds good q ih. rw (suc-add f more, turns_ready sc tmp (f + more) ss ds q, turns_ready sc tmp f ss ds q, ih))
      (λ f ss ds good q z ih. rw (suc-add f more, turns-park sc tmp (f + more) ss ds q z, turns-park sc tmp f ss ds q z, ih))

  -- after the run the moves were made together, and the stack is as high as before
  abbrev Made : World → ℕ → List ℕ → List ℕ → State → Type 0
  Made w f ss ds st =
      Together sc tmp ss ds (holds st) (holds (run w (turns sc tmp f ss ds) st)) × (length (run w (turns sc tmp f ss ds) st).stack ≡ length st.stack)

  made : (w : World) → sc < slots_from → tmp < slots_from → (f : ℕ) (ss ds : List ℕ) → Good sc tmp ss ds → turns_left sc ss ds ≤ f
      → (st : State) → Each (λ d. d < slots_from + length st.stack) ds → Made w f ss ds st
  made w hsc ht =
      by-turns (λ f ss ds. (st : State) → Each (λ d. d < slots_from + length st.stack) ds → Made w f ss ds st)
      (λ f ss ds e st fit.
      rw (none_left sc tmp f ss ds e) (record { arrived = λ j q. absurd (omega arith); kept = λ p a b c. refl }, refl))
      (λ f ss ds good q ih st fit.
      let i : ℕ = first_ready ss ds in
      let ops : List Op = move_ops tmp (get_or ss i 0) (get_or ds i 0) in
      let mv = move-copies w tmp (get_or ss i 0) (get_or ds i 0) st ht (fit i q) in
      let rest = ih (run w ops st) (rw mv.1 (swap_each (λ d. d < slots_from + length st.stack) ds i fit)) in
      rw (turns_ready sc tmp f ss ds q, run-append w ops _ st)
      (ready_step sc tmp ss ds good (holds st) (holds (run w ops st)) _ i q (ready_is ss ds q) mv.0 rest.0, rest.1 ∙ mv.1))
      (λ f ss ds good q z ih st fit.
      let ops : List Op = move_ops tmp (get_or ss 0 0) sc in
      let mv = move-copies w tmp (get_or ss 0 0) sc st ht (omega arith) in
      let rest = ih (run w ops st) (rw mv.1 fit) in
      rw (turns-park sc tmp f ss ds q z, run-append w ops _ st)
      (park-step sc tmp ss ds good (holds st) (holds (run w ops st)) _ q mv.0 rest.0, rest.1 ∙ mv.1))

-- a list of moves that passes the test can be made
checked_good : (n slots : ℕ) (ss ds : List ℕ) → 22 ≤ n → n ≤ 64 → length ss ≡ length ds → Checked n slots ss ds
    → Good (scratch_of n) (tmp_of n) ss ds
checked_good n slots ss ds lo hi long c =
    record {
      long = long;
      once = c.once;
      not_sc = λ j q. place_apart n slots (get_or ds j 0) (scratch_of n) (c.destinations j q) (omega arith) (omega arith);
      not_tmp = λ j q. place_apart n slots (get_or ds j 0) (tmp_of n) (c.destinations j q) (omega arith) (omega arith);
      from_tmp = λ j q. place_apart n slots (get_or ss j 0) (tmp_of n) (c.sources j q) (omega arith) (omega arith);
    }

-- what places hold, said of registers and slots
moved : (n : ℕ) (ss ds : List ℕ) (st st' : State) → n ≤ 64 → Together (scratch_of n) (tmp_of n) ss ds (holds st) (holds st')
    → length st'.stack ≡ length st.stack → MovedAtOnce n ss ds st st'
moved n ss ds st st' hi t height =
    record {
      arrived = t.arrived;
      register_kept = λ r h a b c.
          sym (holds-reg st' r h) ∙ t.kept r a b (among-not r ds c) ∙ holds-reg st r h;
      slot_kept = λ k c.
          let e : slots_from + k - slots_from ≡ k = omega arith in
          let from : slots_from ≤ slots_from + k = omega arith in
          let a : slots_from + k ≢ scratch_of n = λ (q : slots_from + k ≡ scratch_of n). omega arith in
          let b : slots_from + k ≢ tmp_of n = λ (q : slots_from + k ≡ tmp_of n). omega arith in
          (rw (holds-slot st' (slots_from + k) from, holds-slot st (slots_from + k) from, e) at (t.kept (slots_from + k) a b (among-not (slots_from + k) ds c)));
      height_kept = height;
    }

pub moves_theorem : MovesTheorem
unfolding moves
moves_theorem n lo hi =
    let apart : scratch_of n ≢ tmp_of n = λ (e : scratch_of n ≡ tmp_of n). omega arith in
    record {
      at_once = λ w slots ss ds st long ok high most.
          let c : Checked n slots ss ds = moves_checked n slots ss ds ok in
          let m = made (scratch_of n) (tmp_of n) apart w (omega arith) (omega arith) (length ds + length ds) ss ds (checked_good n slots ss ds lo hi long c)
          (omega arith) st (λ j q. let e = place-within n slots (get_or ds j 0) (c.destinations j q) in omega arith) in
          rw (run_words_lem w (move_words n ss ds) (moves n ss ds) st (moves-parts n slots ss ds ok most hi)) (moved n ss ds st _ hi m.0 m.1);
      ends = λ slots more ss ds long ok.
          enough (scratch_of n) (tmp_of n) apart more (length ds + length ds) ss ds
          (checked_good n slots ss ds lo hi long (moves_checked n slots ss ds ok)) (omega arith);
    }
