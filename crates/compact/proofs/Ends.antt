-- How a call ends: what follows where nothing is refused, that the table sends every pc as `sent` does, and the two outcomes.
use mathlib.Core.Path.{◌≡◌, refl, sym, ap, ◌∙◌}
use mathlib.Core.Logic.{◌≢◌}
use mathlib.Core.Bool.{Bool, true, false}
use mathlib.Core.List.{List, map, ◌++◌}
use Prim.Native.Nat.{ℕ, ◌+◌, ◌≤◌, ◌<◌}
use native.Mathlib.Omega.{arith}
use borrow.Author.Tests.{leb-true, le-leb, eq-eqb, ne_eqb}
use lib.Dec.{leb, eqb}
use lib.ListN.{length, take, drop, length-map}
use lib.Seq.{sets, length-take-le}
use Rattle.std.specs.Prelude.{Ok, Err}
use Rattle.base.specs.Choice.{pick}
use Rattle.base.specs.Limits.{most_of_a_kind}
use Rattle.base.specs.Buffers.{zero_from}
use Rattle.base.proofs.Lists.{sets-front}
use Rattle.base.proofs.Buffers.{zero_from-same}
use Rattle.refusal.specs.declared.Refusal.{Refusal}
use Rattle.refusal.specs.declared.Refusal.TheVariants.{BadWord, TooMany, BadShape, DoubleDef, BadInterval, UnknownFunc, BadKey, NoSlot, NoRoom, BadMove, BadTarget, BadReg}
use Rattle.refusal.specs.Numbers.{number_of}
use Rattle.op.specs.Words.{word, parts}
use Rattle.op.specs.Targets.{target_of, aimed}
use Rattle.program.specs.Functions.{function_kind, function_number, function_at, bytecode}
use Rattle.compact.specs.Compaction.{holds_pc, kept_ops, sent, resent, restarted, compact_ops, compact_targets, compact_functions}
use Rattle.compact.specs.Entry.{all_ops, counts_ok, room_ok, ops_within, all_within, starts_within, pcs_ok, refusal, outcome, outcome_of}
use Rattle.compact.specs.Steps.{op_within, start_within, sent_by, resent_by, restarted_by, Remap, Stripped}
use Rattle.compact.proofs.Turns.{strip-part}
use Rattle.compact.proofs.Every.{ops_in, targets_in, starts_in, both-pass, every-kept, maps_agree}

-- a test that has to pass for the number to be 0
no_number : (p : Bool) (n k : ℕ) → 0 < k → pick p n k ≡ 0 → (p ≡ true) × (n ≡ 0)
no_number true n k h e = (refl, e)
no_number false n k h e = absurd (omega arith)

-- what the checks have shown
pub record Unrefused (used target_count : ℕ) (ops spans targets functions work : List ℕ) : Type 0 where
  pub words : all_ops (take used ops) ≡ true
  pub in_ops : used ≤ length ops
  pub in_spans : used ≤ length spans
  pub in_targets : target_count ≤ length targets
  pub few : used ≤ most_of_a_kind
  pub room : used + 1 ≤ length work
  pub ops_are_within : ops_within used (take used ops) ≡ true
  pub targets_within : all_within used (take target_count targets) ≡ true
  pub starts_are_within : starts_within used functions ≡ true

-- the counts that passed
counted : (used target_count : ℕ) (ops spans targets : List ℕ) → counts_ok used target_count ops spans targets ≡ true
    → (used ≤ length ops) × (used ≤ length spans) × (target_count ≤ length targets) × (used ≤ most_of_a_kind)
counted used target_count ops spans targets e =
    let a = both-pass (leb used (length ops)) (pick (leb used (length spans)) (pick (leb target_count (length targets)) (leb used most_of_a_kind) false) false) e in
    let b = both-pass (leb used (length spans)) (pick (leb target_count (length targets)) (leb used most_of_a_kind) false) a.1 in
    let d = both-pass (leb target_count (length targets)) (leb used most_of_a_kind) b.1 in
    (leb-true used (length ops) a.0, leb-true used (length spans) b.0, leb-true target_count (length targets) d.0, leb-true used most_of_a_kind d.1)

-- what follows where nothing is refused
pub unrefused : (used target_count : ℕ) (ops spans targets functions work : List ℕ) → refusal used target_count ops spans targets functions work ≡ 0
    → Unrefused used target_count ops spans targets functions work
unfolding refusal
unrefused used target_count ops spans targets functions work e =
    let a = no_number (all_ops (take used ops)) _ 1 (omega arith) e in
    let b = no_number (counts_ok used target_count ops spans targets) _ 2 (omega arith) a.1 in
    let d = no_number (room_ok used work) _ 9 (omega arith) b.1 in
    let f = no_number (pcs_ok used (take used ops) (take target_count targets) functions) 0 11 (omega arith) d.1 in
    let n = counted used target_count ops spans targets b.0 in
    let g = both-pass (ops_within used (take used ops)) (pick (all_within used (take target_count targets)) (starts_within used functions) false) f.0 in
    let h = both-pass (all_within used (take target_count targets)) (starts_within used functions) g.1 in
    record {
      words = a.0;
      in_ops = n.0;
      in_spans = n.1;
      in_targets = n.2;
      few = n.3;
      room = leb-true (used + 1) (length work) d.0;
      ops_are_within = g.0;
      targets_within = h.0;
      starts_are_within = h.1;
    }

-- and the other way round
pub nothing-refused : {used target_count : ℕ} {ops spans targets functions work : List ℕ} → Unrefused used target_count ops spans targets functions work
    → refusal used target_count ops spans targets functions work ≡ 0
unfolding refusal
nothing-refused {used} {target_count} {ops} {spans} {targets} {functions} {work} u =
    rw (
      u.words,
      le-leb used (length ops) u.in_ops,
      le-leb used (length spans) u.in_spans,
      le-leb target_count (length targets) u.in_targets,
      le-leb used most_of_a_kind u.few,
      le-leb (used + 1) (length work) u.room,
      u.ops_are_within,
      u.targets_within,
      u.starts_are_within,
    )

-- a table that has where each pc is sent sends each word on as `resent` does
module _ {ops work : List ℕ} (r : Remap ops work) where
  resent-agrees : (x : ℕ) → op_within (length ops) x ≡ true → resent_by work x ≡ resent ops x
  unfolding resent_by resent
  resent-agrees x h = go (holds_pc x) h where
    go : (b : Bool) → pick b (leb (target_of (parts x)) (length ops)) true ≡ true
        → pick b (word (aimed (sent_by work (target_of (parts x))) (parts x))) x ≡ pick b (word (aimed (sent ops (target_of (parts x))) (parts x))) x
    go true e = rw (r.has (target_of (parts x)) (leb-true (target_of (parts x)) (length ops) e))
    go false e = refl

  restarted-agrees : (f : ℕ) → start_within (length ops) f ≡ true → restarted_by work f ≡ restarted ops f
  unfolding restarted_by restarted
  restarted-agrees f h = go (eqb (function_kind f) bytecode) h where
    go : (b : Bool) → pick b (leb (function_number f) (length ops)) true ≡ true
        → pick b (function_at bytecode (sent_by work (function_number f))) f ≡ pick b (function_at bytecode (sent ops (function_number f))) f
    go true e = rw (r.has (function_number f) (leb-true (function_number f) (length ops) e))
    go false e = refl

  pub ops_agree : (xs : List ℕ) → ops_within (length ops) xs ≡ true → map (resent_by work) (kept_ops xs) ≡ map (resent ops) (kept_ops xs)
  ops_agree xs h =
      maps_agree (ops_in (length ops)) (resent_by work) (resent ops) resent-agrees (kept_ops xs) (every-kept (ops_in (length ops)) xs h)

  pub targets_agree : (ts : List ℕ) → all_within (length ops) ts ≡ true → map (sent_by work) ts ≡ map (sent ops) ts
  targets_agree ts h =
      maps_agree (targets_in (length ops)) (sent_by work) (sent ops) (λ t e. r.has t (leb-true t (length ops) e)) ts h

  pub starts_agree : (fs : List ℕ) → starts_within (length ops) fs ≡ true → map (restarted_by work) fs ≡ map (restarted ops) fs
  starts_agree fs h = maps_agree (starts_in (length ops)) (restarted_by work) (restarted ops) restarted-agrees fs h

-- all of the first n of a list made anew
front_whole : (n : ℕ) (l xs : List ℕ) → n ≤ length l → length xs ≡ n → xs ++ drop n l ≡ sets l 0 xs
front_whole n l xs h e = rw (sets-front l xs (omega arith), e)

-- the work room ends zero, whatever it held
pub zeroed : (work work' : List ℕ) → length work' ≡ length work → zero_from work' 0 ≡ zero_from work 0
zeroed work work' e = zero_from-same work' work 0 refl e

-- a call that is not refused
pub ends-done : (used target_count : ℕ) (ops spans targets functions work : List ℕ) (left : ℕ) (ops' spans' targets' functions' work' work'' : List ℕ)
    → refusal used target_count ops spans targets functions work ≡ 0 → length work' ≡ length work → Remap (take used ops) work'
    → Stripped work' (length (take used ops)) (take used ops) (take used spans) left ops' spans'
    → targets' ≡ map (sent_by work') (take target_count targets) → functions' ≡ map (restarted_by work') functions → work'' ≡ zero_from work' 0
    → outcome (Ok left) (ops' ++ drop used ops) (spans' ++ drop used spans) (targets' ++ drop target_count targets) functions' work''
    ≡ outcome_of used target_count ops spans targets functions work
unfolding outcome_of compact_ops compact_targets compact_functions
ends-done used target_count ops spans targets functions work left ops' spans' targets' functions' work' work'' e l r part t f w =
    let u = unrefused used target_count ops spans targets functions work e in
    let n : length (take used ops) ≡ used = length-take-le used ops u.in_ops in
    let s = strip-part u.in_ops u.in_spans part in
    let a : map (resent_by work') (kept_ops (take used ops)) ≡ map (resent (take used ops)) (kept_ops (take used ops))
    = ops_agree r (take used ops) (rw n u.ops_are_within) in
    let b : map (sent_by work') (take target_count targets) ≡ map (sent (take used ops)) (take target_count targets)
    = targets_agree r (take target_count targets) (rw n u.targets_within) in
    let d : map (restarted_by work') functions ≡ map (restarted (take used ops)) functions = starts_agree r functions (rw n u.starts_are_within) in
    let m : left ≡ length (map (resent (take used ops)) (kept_ops (take used ops)))
    = s.next_is ∙ sym (length-map (kept_ops (take used ops)) (resent (take used ops))) in
    let o : ops' ++ drop used ops ≡ sets ops 0 (map (resent (take used ops)) (kept_ops (take used ops))) = s.ops_is ∙ ap (sets ops 0) a in
    let g : targets' ++ drop target_count targets ≡ sets targets 0 (map (sent (take used ops)) (take target_count targets))
    = rw (t, b) (front_whole target_count targets (map (sent (take used ops)) (take target_count targets)) u.in_targets
    (length-map (take target_count targets) (sent (take used ops)) ∙ length-take-le target_count targets u.in_targets)) in
    let v : work'' ≡ zero_from work 0 = w ∙ zeroed work work' l in
    rw (eq-eqb (refusal used target_count ops spans targets functions work) 0 e, m, o, s.spans_is, g, f, d, v)

-- a refusal has a number, and none is 0
numbered : (why : Refusal) → number_of why ≢ 0
numbered why = elim why as (λ r. number_of r ≢ 0) [
  | BadWord ↦ λ e. omega arith
  | TooMany ↦ λ e. omega arith
  | BadShape ↦ λ e. omega arith
  | DoubleDef ↦ λ e. omega arith
  | BadInterval ↦ λ e. omega arith
  | UnknownFunc ↦ λ e. omega arith
  | BadKey ↦ λ e. omega arith
  | NoSlot ↦ λ e. omega arith
  | NoRoom ↦ λ e. omega arith
  | BadMove ↦ λ e. omega arith
  | BadTarget ↦ λ e. omega arith
  | BadReg ↦ λ e. omega arith
]

-- a refused call
pub ends-refused : (used target_count : ℕ) (ops spans targets functions work work' : List ℕ) (why : Refusal)
    → number_of why ≡ refusal used target_count ops spans targets functions work → work' ≡ zero_from work 0
    → outcome (Err why) ops spans targets functions work' ≡ outcome_of used target_count ops spans targets functions work
unfolding outcome_of
ends-refused used target_count ops spans targets functions work work' why e w = rw (← e, ne_eqb (number_of why) 0 (numbered why), w)
