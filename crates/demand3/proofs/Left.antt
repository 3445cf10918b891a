-- What a Done leaves in the buffers: the ops, the places, the slots of the switch tables, resolved, their heads and those of the lookup tables, the
-- function table, the builtins.
use mathlib.Core.Path.{◌≡◌, refl, sym, ap, ◌∙◌}
use Prim.Native.Nat.{ℕ, zero, suc, ◌+◌, ◌*◌, ◌-◌, ◌≤◌, ◌<◌}
use mathlib.Core.List.{List, [], ◌∷◌, ◌++◌}
use native.Mathlib.Nat.{not-suc-le-zero, le_of_suc-le-suc}
use native.Mathlib.Omega.{arith}
use lib.ListN.{length, get_or, take, drop, length-append, length-take, length-drop, length-map}
use lib.Seq.{sets, take_at, get_or-append-add, get_or-set_same, get_or-drop, length-take-le}
use Rattle.base.proofs.Lists.{sets-front}
use Rattle.program.specs.Functions.{bytecode, function_at}
use Rattle.input.specs.Layout.{function_id, values}
use Rattle.placing.proofs.Low.{map-length}
use Rattle.layout.proofs.Heads.{after_thirds}
use Rattle.layout.proofs.Lookups.{after_fifths}
use Rattle.lists.specs.declared.Used.{Used}
use Rattle.assemble.proofs.Whole.{room_few}
use Rattle.first_checks.specs.Buffers.{Buffers}
use Rattle.compile.specs.Program.{Outcome}
use Rattle.used.specs.Used.{labels_at}
use Rattle.compile.specs.Compile.{places_of, new_lists, new_functions, new_targets, final_out, done_of, compiled}
use Rattle.demand3.specs.Demand3.{ops_of, slots_of, heads_of, lookups_of, builtins_of, places_left}
use Rattle.demand3.proofs.Passed.{passed, done_is}

-- a buffer starts with what was put there
front_is : (l xs : List ℕ) (k : ℕ) → length xs ≡ k → k ≤ length l → take k (sets l 0 xs) ≡ xs
front_is l xs k e h = ap (take k) (sets-front l xs (omega arith)) ∙ take_at xs (drop (length xs) l) k e

-- a slot that is a label becomes its pc
mapped : (labels xs : List ℕ) (i : ℕ) → i < length xs → get_or (labels_at labels xs) i 0 ≡ get_or labels (get_or xs i 0) 0
mapped labels [] i h = absurd (not-suc-le-zero h)
mapped labels (x ∷ xs) zero h = refl
mapped labels (x ∷ xs) (suc i) h = mapped labels xs i (le_of_suc-le-suc h)

-- slots from `from` on resolved
module _ (labels l : List ℕ) (from : ℕ) where
  resolved_long : length (take from l ++ labels_at labels (drop from l)) ≡ length l
  resolved_long = simp (length-append, length-map, length-take, length-drop) (omega arith)

  pub resolved_at : (t : ℕ) → from ≤ t → t < length l → get_or (take from l ++ labels_at labels (drop from l)) t 0 ≡ get_or labels (get_or l t 0) 0
  resolved_at t h k =
      let e : length (take from l) ≡ from = length-take-le from l (omega arith) in
      let s : length (take from l) + (t - from) ≡ t = omega (arith, e) in
      let s' : from + (t - from) ≡ t = omega arith in
      let d : t - from < length (drop from l) = simp length-drop (omega arith) in
      ap (λ (x : ℕ). get_or (take from l ++ labels_at labels (drop from l)) x 0) (sym s)
      ∙ get_or-append-add (take from l) (labels_at labels (drop from l)) (t - from) 0
      ∙ mapped labels (drop from l) (t - from) d
      ∙ ap (λ (x : ℕ). get_or labels x 0) (get_or-drop from l (t - from) 0 ∙ ap (λ (x : ℕ). get_or l x 0) s')

module _ (n : ℕ) (ws : List ℕ) (b : Buffers) (u : Used) (done : (compiled n ws b u).number ≡ 0) where
  pub ops-left : ops_of n ws b u ≡ (final_out n ws b u).ops
  unfolding done_of
  ops-left =
      ap (λ (o : Outcome). take o.used.ops o.buffers.ops) (done_is n ws b u done)
      ∙ front_is b.ops (final_out n ws b u).ops (length (final_out n ws b u).ops) refl
      (omega (arith, (passed n ws b u done).ops_room, (room_few b.ops b.spans).1))

  pub places-left : places_left n ws b u ≡ places_of n ws
  unfolding done_of
  places-left =
      ap (λ (o : Outcome). take (values ws) o.buffers.places) (done_is n ws b u done)
      ∙ front_is b.places (places_of n ws) (values ws) (map-length n ws) (passed n ws b u done).places_room

  pub slots_left : slots_of n ws b u ≡ new_targets n ws b u
  unfolding done_of
  slots_left =
      ap (λ (o : Outcome). take o.used.targets o.buffers.targets) (done_is n ws b u done)
      ∙ front_is b.targets (new_targets n ws b u) (length (new_lists n ws b u).targets)
      (resolved_long (final_out n ws b u).labels (new_lists n ws b u).targets u.targets) (passed n ws b u done).targets_room

  pub heads_long : length (take (3 * u.switches) b.switches) ≡ 3 * u.switches
  heads_long = length-take-le (3 * u.switches) b.switches (passed n ws b u done).switches_used

  pub heads_left : heads_of n ws b u ≡ (new_lists n ws b u).switches
  unfolding done_of
  heads_left =
      let e = after_thirds ws u.targets u.switches (take (3 * u.switches) b.switches) heads_long in
      ap (λ (o : Outcome). take (3 * o.used.switches) o.buffers.switches) (done_is n ws b u done)
      ∙ ap (λ (k : ℕ). take k (sets b.switches 0 (new_lists n ws b u).switches)) e
      ∙ front_is b.switches (new_lists n ws b u).switches (length (new_lists n ws b u).switches) refl (passed n ws b u done).switches_room

  pub lookups_long : length (take (5 * u.lookups) b.lookups) ≡ 5 * u.lookups
  lookups_long = length-take-le (5 * u.lookups) b.lookups (passed n ws b u done).lookups_used

  pub lookups_left : lookups_of n ws b u ≡ (new_lists n ws b u).lookups
  unfolding done_of
  lookups_left =
      let e = after_fifths ws u.values u.lookups (take (5 * u.lookups) b.lookups) lookups_long in
      ap (λ (o : Outcome). take (5 * o.used.lookups) o.buffers.lookups) (done_is n ws b u done)
      ∙ ap (λ (k : ℕ). take k (sets b.lookups 0 (new_lists n ws b u).lookups)) e
      ∙ front_is b.lookups (new_lists n ws b u).lookups (length (new_lists n ws b u).lookups) refl (passed n ws b u done).lookups_room

  pub functions-left : (compiled n ws b u).buffers.functions ≡ new_functions ws b u
  unfolding done_of
  functions-left = ap (λ (o : Outcome). o.buffers.functions) (done_is n ws b u done)

  pub entry-left : get_or (compiled n ws b u).buffers.functions (function_id ws) 0 ≡ function_at bytecode u.ops
  entry-left =
      ap (λ (l : List ℕ). get_or l (function_id ws) 0) functions-left
      ∙ get_or-set_same b.functions (function_id ws) (function_at bytecode u.ops) 0 (passed n ws b u done).entry_room

  pub builtins_left : builtins_of n ws b u ≡ (new_lists n ws b u).builtins
  unfolding done_of
  builtins_left =
      ap (λ (o : Outcome). take o.used.builtins o.buffers.builtins) (done_is n ws b u done)
      ∙ front_is b.builtins (new_lists n ws b u).builtins (length (new_lists n ws b u).builtins) refl (passed n ws b u done).builtins_room
