-- How an attempt ends: zeroing the work room, and where it is refused the rest behind the used lengths, gives what the definition says.
use Rattle.std.specs.Prelude.{Result, Ok, Err, is_err}
use mathlib.Core.Path.{◌≡◌, refl, sym, ◌∙◌}
use mathlib.Core.Bool.{Bool, true, false}
use mathlib.Core.List.{List}
use Prim.Native.Nat.{ℕ}
use borrow.Author.Tests.{eq-eqb}
use lib.Dec.{eqb}
use lib.ListN.{length}
use Rattle.base.specs.Buffers.{zero_from}
use Rattle.base.proofs.Numbers.{pick_true, pick-false}
use Rattle.base.proofs.Buffers.{zero_from-same}
use Rattle.refusal.specs.declared.Refusal.{Refusal}
use Rattle.judge.proofs.Verdicts.{some}
use Rattle.lists.specs.declared.Used.{Used}
use Rattle.lists.specs.Lists.{global_words, switch_words, lookup_words, value_words}
use Rattle.first_checks.specs.Buffers.{Buffers, lent}
use Rattle.compile.specs.Program.{Outcome, outcome}
use Rattle.compile.specs.Compile.{refusal, done_of, refused_of, compiled}
use Rattle.compile.specs.Attempt.{Attempted}

-- an outcome by its fields
outcomes : (o : Outcome) (k : ℕ) (u : Used) (ops spans globals builtins functions switches targets lookups values places hints noted labels : List ℕ) → k ≡ o.number → u ≡ o.used
    → ops ≡ o.buffers.ops
    → spans ≡ o.buffers.spans
    → globals ≡ o.buffers.globals
    → builtins ≡ o.buffers.builtins
    → functions ≡ o.buffers.functions
    → switches ≡ o.buffers.switches
    → targets ≡ o.buffers.targets
    → lookups ≡ o.buffers.lookups
    → values ≡ o.buffers.values
    → places ≡ o.buffers.places
    → hints ≡ o.buffers.hints
    → noted ≡ o.buffers.noted
    → labels ≡ o.buffers.labels
    → ◌≡◌ {A = Outcome} (record { number = k; used = u; buffers = lent ops spans globals builtins functions switches targets lookups values places hints noted labels }) o
outcomes o k u ops spans globals builtins functions switches targets lookups values places hints noted labels e f q0 q1 q2 q3 q4 q5 q6 q7 q8 q9 q10 q11 q12 =
    let z : ◌≡◌ {A = Outcome} (record { number = k; used = u; buffers = lent ops spans globals builtins functions switches targets lookups values places hints noted labels })
    (record { number = o.number; used = o.used; buffers = lent o.buffers.ops o.buffers.spans o.buffers.globals o.buffers.builtins o.buffers.functions o.buffers.switches o.buffers.targets o.buffers.lookups o.buffers.values o.buffers.places o.buffers.hints o.buffers.noted o.buffers.labels }) =
    cc in
    z

-- zeroed whole, a buffer is determined by its length
zeroed : (x y : List ℕ) {z : List ℕ} → z ≡ zero_from x 0 → length x ≡ length y → z ≡ zero_from y 0
zeroed x y e h = e ∙ zero_from-same x y 0 refl h

module _ {n : ℕ} {ws : List ℕ} {u : Used} {b b' : Buffers} {hints noted labels : List ℕ}
    (qh : hints ≡ zero_from b'.hints 0)
    (qn : noted ≡ zero_from b'.noted 0)
    (qk : labels ≡ zero_from b'.labels 0)
    (sh : length b'.hints ≡ length b.hints)
    (sn : length b'.noted ≡ length b.noted)
    (sk : length b'.labels ≡ length b.labels) where
  pub ends-done : (r : Result Used Refusal) → is_err r ≡ false → Attempted n ws u b b' r
      → outcome r u (lent b'.ops b'.spans b'.globals b'.builtins b'.functions b'.switches b'.targets b'.lookups b'.values b'.places hints noted labels) ≡ compiled n ws b u
  unfolding done_of compiled
  ends-done (Ok new) e at =
      let f = at.done in
      outcomes (done_of n ws b u) _ new _ _ _ _ _ _ _ _ _ _ _ _ _ refl f.used_is f.ops_is f.spans_is f.globals_is f.builtins_is
      f.functions_is f.switches_is f.targets_is f.lookups_is f.values_is f.places_is (zeroed _ _ qh sh) (zeroed _ _ qn sn) (zeroed _ _ qk sk)
      ∙ sym (pick_true (eqb (refusal n ws b u) 0) _ _ (eq-eqb _ 0 (sym at.number_is)))
  ends-done (Err why) e at = let z : ◌≡◌ {A = Bool} true false = e in cc

  pub ends-refused : (r : Result Used Refusal) → is_err r ≡ true → Attempted n ws u b b' r
      → {ops spans globals builtins switches targets lookups values places : List ℕ}
      → (ops ≡ zero_from b'.ops u.ops) × (spans ≡ zero_from b'.spans u.ops) × (globals ≡ zero_from b'.globals (global_words u)) × (builtins ≡ zero_from b'.builtins u.builtins)
      → (switches ≡ zero_from b'.switches (switch_words u)) × (targets ≡ zero_from b'.targets u.targets) × (lookups ≡ zero_from b'.lookups (lookup_words u)) × (values ≡ zero_from b'.values (value_words u))
      → places ≡ zero_from b'.places 0 → length b'.places ≡ length b.places
      → outcome r u (lent ops spans globals builtins b'.functions switches targets lookups values places hints noted labels) ≡ compiled n ws b u
  unfolding refused_of compiled
  ends-refused (Ok new) e at y z qp sp = let z : ◌≡◌ {A = Bool} false true = e in cc
  ends-refused (Err why) e at y z qp sp =
      let f = at.refused in
      outcomes (refused_of (refusal n ws b u) b u) _ u _ _ _ _ _ _ _ _ _ _ _ _ _ at.number_is refl
      (y.0 ∙ f.ops_kept) (y.1 ∙ f.spans_kept) (y.2 ∙ f.globals_kept) (y.3 ∙ f.builtins_kept) f.functions_kept
      (z.0 ∙ f.switches_kept) (z.1 ∙ f.targets_kept) (z.2 ∙ f.lookups_kept) (z.3 ∙ f.values_kept) (zeroed _ _ qp sp)
      (zeroed _ _ qh sh) (zeroed _ _ qn sn) (zeroed _ _ qk sk)
      ∙ sym (pick-false (eqb (refusal n ws b u) 0) _ _ (rw (← at.number_is) (some why)))
