-- What the answer 0 says: no refusal applies, so every check passed and all found room, and what is left is what is done.
use mathlib.Core.Path.{◌≡◌, refl}
use mathlib.Core.Logic.{⊎_elim}
use mathlib.Core.Bool.{Bool, true, false}
use Prim.Native.Nat.{ℕ, ◌*◌, ◌≤◌, ◌<◌, min}
use mathlib.Core.List.{List}
use native.Mathlib.Omega.{arith}
use borrow.Author.Tests.{eq-eqb, eqb-true, eqb-false, leb-true, ltb-true}
use lib.Dec.{leb, eqb}
use lib.ListN.{length}
use Rattle.base.specs.Choice.{pick}
use Rattle.base.specs.Limits.{most_of_a_kind}
use Rattle.base.proofs.Numbers.{pick_true}
use Rattle.base.proofs.Numbers as test
use Rattle.input.specs.Layout.{function_id, values}
use Rattle.input.specs.Forms.{words_ok}
use Rattle.input.proofs.Chain.{both-parts}
use Rattle.judge.specs.Judged.{unfit}
use Rattle.assign.specs.Walk.{slots_ok}
use Rattle.placing.specs.Placing.{room_ok as places_fit}
use Rattle.lists.specs.declared.Used.{Used}
use Rattle.lists.specs.Lists.{Lists, room, lists_fit}
use Rattle.used.specs.Pens.{op_room}
use Rattle.first_checks.specs.Buffers.{Buffers, lists_of}
use Rattle.used.specs.Used.{within, slots_within, labels_for}
use Rattle.first_checks.specs.Checks.{used_ok, entry_ok}
use Rattle.compile.specs.Compile.{new_lists, final_out, room_ok, refusal, done_of, refused_of, compiled}

-- a test with a refusal passes, and so does the rest
chosen : (t : Bool) (x k : ℕ) → 0 < k → pick t x k ≡ 0 → (t ≡ true) × (x ≡ 0)
chosen true x k h e = (refl, e)
chosen false x k h e = absurd (omega arith)

-- a number that is refused itself unless it is 0
first_none : (x y : ℕ) → pick (eqb x 0) y x ≡ 0 → (x ≡ 0) × (y ≡ 0)
first_none x y e =
    ⊎_elim
    (λ (t : eqb x 0 ≡ true). (eqb-true x 0 t, rw t at e))
    (λ (f : eqb x 0 ≡ false). absurd (eqb-false x 0 f (rw f at e)))
    (test.both (eqb x 0))

pub record Passed (n : ℕ) (ws : List ℕ) (b : Buffers) (u : Used) : Type 0 where
  pub fit : unfit n ws b.functions ≡ 0
  pub slots : slots_ok n ws ≡ true
  pub ops_used : u.ops ≤ length b.ops
  pub targets_used : u.targets ≤ length b.targets
  pub switches_used : 3 * u.switches ≤ length b.switches
  pub lookups_used : 5 * u.lookups ≤ length b.lookups
  pub places_room : values ws ≤ length b.places
  pub labels_room : labels_for ws ≤ length b.labels
  pub entry_room : function_id ws < length b.functions
  pub targets_room : length (new_lists n ws b u).targets ≤ length b.targets
  pub switches_room : length (new_lists n ws b u).switches ≤ length b.switches
  pub lookups_room : length (new_lists n ws b u).lookups ≤ length b.lookups
  pub builtins_room : length (new_lists n ws b u).builtins ≤ length b.builtins
  pub ops_room : length (final_out n ws b u).ops ≤ op_room b.ops b.spans

-- the ops in use are in their buffer
used_ops : (b : Buffers) (u : Used) → used_ok b u ≡ true → u.ops ≤ length b.ops
unfolding used_ok
used_ops b u e =
    let p = both-parts (within 1 u.ops (length b.ops)) _ e in
    let q = both-parts (leb (1 * u.ops) (length b.ops)) _ p.0 in
    omega (arith, leb-true (1 * u.ops) (length b.ops) q.0)

-- so are the slots of switch tables
used_targets : (b : Buffers) (u : Used) → used_ok b u ≡ true → u.targets ≤ length b.targets
unfolding used_ok
used_targets b u e =
    let p = both-parts (within 1 u.ops (length b.ops)) _ e in
    let q = both-parts (within 1 u.ops (length b.spans)) _ p.1 in
    let r = both-parts (within 2 u.globals (length b.globals)) _ q.1 in
    let s = both-parts (within 1 u.builtins (length b.builtins)) _ r.1 in
    let t = both-parts (within 3 u.switches (length b.switches)) _ s.1 in
    let v = both-parts (slots_within 1 u.targets (length b.targets)) _ t.1 in
    let w = both-parts (leb (1 * u.targets) (length b.targets)) _ v.0 in
    omega (arith, leb-true (1 * u.targets) (length b.targets) w.0)

-- and so are their heads
used_switches : (b : Buffers) (u : Used) → used_ok b u ≡ true → 3 * u.switches ≤ length b.switches
unfolding used_ok
used_switches b u e =
    let p = both-parts (within 1 u.ops (length b.ops)) _ e in
    let q = both-parts (within 1 u.ops (length b.spans)) _ p.1 in
    let r = both-parts (within 2 u.globals (length b.globals)) _ q.1 in
    let s = both-parts (within 1 u.builtins (length b.builtins)) _ r.1 in
    let t = both-parts (within 3 u.switches (length b.switches)) _ s.1 in
    leb-true (3 * u.switches) (length b.switches) (both-parts (leb (3 * u.switches) (length b.switches)) _ t.0).0

-- and those of lookup tables
used_lookups : (b : Buffers) (u : Used) → used_ok b u ≡ true → 5 * u.lookups ≤ length b.lookups
unfolding used_ok
used_lookups b u e =
    let p = both-parts (within 1 u.ops (length b.ops)) _ e in
    let q = both-parts (within 1 u.ops (length b.spans)) _ p.1 in
    let r = both-parts (within 2 u.globals (length b.globals)) _ q.1 in
    let s = both-parts (within 1 u.builtins (length b.builtins)) _ r.1 in
    let t = both-parts (within 3 u.switches (length b.switches)) _ s.1 in
    let v = both-parts (slots_within 1 u.targets (length b.targets)) _ t.1 in
    let w = both-parts (within 5 u.lookups (length b.lookups)) _ v.1 in
    leb-true (5 * u.lookups) (length b.lookups) (both-parts (leb (5 * u.lookups) (length b.lookups)) _ w.0).0

-- and so are all of them, and all builtins
fits_builtins : (b l : Lists) → lists_fit b l ≡ true → length l.builtins ≤ length b.builtins
unfolding lists_fit
fits_builtins b l e =
    let p = both-parts (leb (length l.globals) (room 2 b.globals)) _ e in
    let q = both-parts (leb (length l.builtins) (room 1 b.builtins)) _ p.1 in
    omega (arith, leb-true (length l.builtins) (room 1 b.builtins) q.0)

fits_switches : (b l : Lists) → lists_fit b l ≡ true → length l.switches ≤ length b.switches
unfolding lists_fit
fits_switches b l e =
    let p = both-parts (leb (length l.globals) (room 2 b.globals)) _ e in
    let q = both-parts (leb (length l.builtins) (room 1 b.builtins)) _ p.1 in
    let r = both-parts (leb (length l.switches) (room 3 b.switches)) _ q.1 in
    omega (arith, leb-true (length l.switches) (room 3 b.switches) r.0)

fits_targets : (b l : Lists) → lists_fit b l ≡ true → length l.targets ≤ length b.targets
unfolding lists_fit
fits_targets b l e =
    let p = both-parts (leb (length l.globals) (room 2 b.globals)) _ e in
    let q = both-parts (leb (length l.builtins) (room 1 b.builtins)) _ p.1 in
    let r = both-parts (leb (length l.switches) (room 3 b.switches)) _ q.1 in
    let s = both-parts (leb (length l.targets) (length b.targets)) _ r.1 in
    leb-true (length l.targets) (length b.targets) s.0

fits_lookups : (b l : Lists) → lists_fit b l ≡ true → length l.lookups ≤ length b.lookups
unfolding lists_fit
fits_lookups b l e =
    let p = both-parts (leb (length l.globals) (room 2 b.globals)) _ e in
    let q = both-parts (leb (length l.builtins) (room 1 b.builtins)) _ p.1 in
    let r = both-parts (leb (length l.switches) (room 3 b.switches)) _ q.1 in
    let s = both-parts (leb (length l.targets) (length b.targets)) _ r.1 in
    let t = both-parts (leb (length l.lookups) (room 5 b.lookups)) _ s.1 in
    omega (arith, leb-true (length l.lookups) (room 5 b.lookups) t.0)

fits_places : (ws places hints noted : List ℕ) → places_fit ws places hints noted ≡ true → values ws ≤ length places
unfolding places_fit
fits_places ws places hints noted e =
    leb-true (values ws) (length places) (both-parts (leb (values ws) (length places)) _ e).0

fits_entry : (ws : List ℕ) (b : Buffers) → entry_ok ws b ≡ true → (labels_for ws ≤ length b.labels) × (function_id ws < length b.functions)
unfolding entry_ok
fits_entry ws b e =
    let p = both-parts (leb (labels_for ws) (length b.labels)) _ e in
    (leb-true (labels_for ws) (length b.labels) p.0, omega (arith, ltb-true (function_id ws) (min (length b.functions) most_of_a_kind) p.1))

module _ (n : ℕ) (ws : List ℕ) (b : Buffers) (u : Used) where
  none_refused : (compiled n ws b u).number ≡ 0 → refusal n ws b u ≡ 0
  unfolding compiled refused_of
  none_refused e =
      ⊎_elim
      (λ (t : eqb (refusal n ws b u) 0 ≡ true). eqb-true (refusal n ws b u) 0 t)
      (λ (f : eqb (refusal n ws b u) 0 ≡ false). rw f at e)
      (test.both (eqb (refusal n ws b u) 0))

  passes : refusal n ws b u ≡ 0 → Passed n ws b u
  unfolding refusal room_ok
  passes e =
      let p = chosen (words_ok ws) _ 1 (omega arith) e in
      let q = chosen (used_ok b u) _ 2 (omega arith) p.1 in
      let r = first_none (unfit n ws b.functions) _ q.1 in
      let s = chosen (slots_ok n ws) _ 8 (omega arith) r.1 in
      let t = chosen (room_ok n ws b u) 0 9 (omega arith) s.1 in
      let x = both-parts (places_fit ws b.places b.hints b.noted) _ t.0 in
      let y = both-parts (entry_ok ws b) _ x.1 in
      let z = both-parts (lists_fit (lists_of b) (new_lists n ws b u)) _ y.1 in
      record {
        fit = r.0;
        slots = s.0;
        ops_used = used_ops b u q.0;
        targets_used = used_targets b u q.0;
        switches_used = used_switches b u q.0;
        lookups_used = used_lookups b u q.0;
        places_room = fits_places ws b.places b.hints b.noted x.0;
        labels_room = (fits_entry ws b y.0).0;
        entry_room = (fits_entry ws b y.0).1;
        targets_room = fits_targets (lists_of b) (new_lists n ws b u) z.0;
        switches_room = fits_switches (lists_of b) (new_lists n ws b u) z.0;
        lookups_room = fits_lookups (lists_of b) (new_lists n ws b u) z.0;
        builtins_room = fits_builtins (lists_of b) (new_lists n ws b u) z.0;
        ops_room = leb-true (length (final_out n ws b u).ops) (op_room b.ops b.spans) z.1;
      }

  pub passed : (compiled n ws b u).number ≡ 0 → Passed n ws b u
  passed e = passes (none_refused e)

  pub done_is : (compiled n ws b u).number ≡ 0 → compiled n ws b u ≡ done_of n ws b u
  unfolding compiled
  done_is e = pick_true (eqb (refusal n ws b u) 0) _ _ (eq-eqb (refusal n ws b u) 0 (none_refused e))
