-- The theorems of specs/Theorems.antt: what compaction is right about, that it changes nothing where there is nothing to do, and that it is done once.
use mathlib.Core.Path.{◌≡◌, refl, sym, ap, ◌∙◌}
use mathlib.Core.Logic.{⊎_elim, ◌≢◌}
use mathlib.Core.Bool.{Bool, true, false}
use mathlib.Core.List.{List, ◌∷◌, map, map-id, map-append}
use Prim.Native.Nat.{ℕ, zero, suc, ◌+◌, ◌*◌, ◌/◌, ◌%◌, ◌≤◌, ◌<◌}
use native.Mathlib.Nat.{add-zero}
use native.Mathlib.Omega.{arith}
use borrow.Author.Tests.{not-true, eq-eqb, ne_eqb, eqb-true, eqb-false, leb-true, le-leb}
use lib.Dec.{eqb}
use lib.ListN.{length, get_or, take, drop, length-map, length-take}
use lib.Seq.{sets, take_at, get_or_at, length-sets, length-take-le}
use Rattle.base.specs.Choice.{pick}
use Rattle.base.specs.Limits.{most_of_a_kind}
use Rattle.base.specs.Buffers.{zero_from}
use Rattle.base.proofs.Numbers.{lt?, pick_true, pick-both, pick_case}
use Rattle.base.proofs.Lists.{sets-front, sets_self}
use Rattle.base.proofs.Buffers.{length-zero_from, zero_from-zero_from}
use Rattle.op.specs.Words.{word, parts}
use Rattle.op.specs.Targets.{is_jump, is_entry, target_of, aimed}
use Rattle.op.proofs.Words.{word-parts}
use Rattle.program.specs.Functions.{function_kind, function_number, function_at, bytecode}
use Rattle.compact.specs.Compaction.{is_nop, holds_pc, kept_ops, kept_spans, sent, resent, restarted, compact_ops, compact_targets, compact_functions}
use Rattle.compact.specs.Entry.{all_ops, ops_within, all_within, starts_within, pcs_ok, refusal, Outcome, outcome_of}
use Rattle.compact.specs.Steps.{op_within, start_within}
use Rattle.compact.specs.Theorems.{WithoutNop, CompactionRight, Unchanged, NoNop, CompactTwice, CalledTwice}
use Rattle.compact.proofs.Every.{anything, is_op, is_kept, all_kept, words, ops_in, targets_in, starts_in, stayed, both-pass, every_at, every-from, every-kept, every_map, maps_agree}
use Rattle.compact.proofs.Sending.{kept_stay, kept_same, kept_le, spans_same, spans_length, sent-turn, sent_most, sent-same, sent-past, kept_at, spans_at}
use Rattle.compact.proofs.Aiming.{bytes_parts, bytes_aimed, parts-word, target_aimed, aimed_target, aimed-not-nop, aimed-allowed}
use Rattle.compact.proofs.Ends.{Unrefused, unrefused, nothing-refused}

-- no word is Nop's: as a test, and as the statement has it
kept-without : (xs : List ℕ) → all_kept xs ≡ true → WithoutNop xs
kept-without xs h k l = eqb-false (get_or xs k 0) 0 (not-true (is_nop (get_or xs k 0)) (every_at stayed xs k h l))

without-kept : (xs : List ℕ) → WithoutNop xs → all_kept xs ≡ true
without-kept xs h = every-from stayed xs (λ k l. rw (ne_eqb (get_or xs k 0) 0 (h k l)))

-- what holds of a word as it was, and of one aimed anew, holds of one sent on
resent_case : (P : ℕ → Type 0) (ops : List ℕ) (x : ℕ)
    → (holds_pc x ≡ true → P (word (aimed (sent ops (target_of (parts x))) (parts x)))) → (holds_pc x ≡ false → P x) → P (resent ops x)
unfolding resent
resent_case P ops x f g = pick_case P (holds_pc x) (word (aimed (sent ops (target_of (parts x))) (parts x))) x f g

restarted_case : (P : ℕ → Type 0) (ops : List ℕ) (f : ℕ)
    → (eqb (function_kind f) bytecode ≡ true → P (function_at bytecode (sent ops (function_number f)))) → (eqb (function_kind f) bytecode ≡ false → P f)
    → P (restarted ops f)
unfolding restarted
restarted_case P ops f g h = pick_case P (eqb (function_kind f) bytecode) (function_at bytecode (sent ops (function_number f))) f g h

-- a word that is sent on stays no Nop, stays an op, and holds no pc beyond the end
resent-stays : (ops : List ℕ) (x : ℕ) → is_kept x ≡ true → is_kept (resent ops x) ≡ true
resent-stays ops x k =
    resent_case (λ (y : ℕ). is_kept y ≡ true) ops x
    (λ h. rw (ne_eqb (word (aimed (sent ops (target_of (parts x))) (parts x))) 0 (aimed-not-nop (sent ops (target_of (parts x))) x h)))
    (λ h. k)

parts-aimed : (pc x : ℕ) → parts (word (aimed pc (parts x))) ≡ aimed pc (parts x)
parts-aimed pc x = parts-word (aimed pc (parts x)) (bytes_aimed pc (parts x) (bytes_parts x))

resent-allowed : (ops : List ℕ) (x : ℕ) → is_op x ≡ true → is_op (resent ops x) ≡ true
resent-allowed ops x k =
    resent_case (λ (y : ℕ). is_op y ≡ true) ops x
    (λ h. rw (parts-aimed (sent ops (target_of (parts x))) x) (aimed-allowed (sent ops (target_of (parts x))) x h k))
    (λ h. k)

resent-within : (ops : List ℕ) (n x : ℕ) → n ≡ length (kept_ops ops) → length ops ≤ most_of_a_kind → op_within n (resent ops x) ≡ true
resent-within ops n x e l =
    let pc = sent ops (target_of (parts x)) in
    let m : pc ≤ n = omega (arith, sent_most ops (target_of (parts x))) in
    let s : pc < 65536 = omega (arith, kept_le ops) in
    resent_case (λ (y : ℕ). op_within n y ≡ true) ops x
    (λ h. rw (parts-aimed pc x, target_aimed pc (parts x) s)
    (pick-both (λ (b : Bool). b ≡ true) (pick (is_jump (aimed pc (parts x)).code) true (is_entry (aimed pc (parts x)).code)) _ _ (le-leb pc n m) refl))
    (λ h. rw h)

restarted-within : (ops : List ℕ) (n f : ℕ) → n ≡ length (kept_ops ops) → start_within n (restarted ops f) ≡ true
restarted-within ops n f e =
    let pc = sent ops (function_number f) in
    let m : pc ≤ n = omega (arith, sent_most ops (function_number f)) in
    let k : (1 + 4 * pc) % 4 ≡ 1 = omega arith in
    let d : (1 + 4 * pc) / 4 ≡ pc = omega arith in
    restarted_case (λ (g : ℕ). start_within n g ≡ true) ops f
    (λ h. rw (k, d) (le-leb pc n m))
    (λ h. rw h)

-- where every pc is sent to itself, a word with its pc within the ops is sent on as it is
resent_self : (ops : List ℕ) → all_kept ops ≡ true → (x : ℕ) → op_within (length ops) x ≡ true → resent ops x ≡ x
resent_self ops k x w =
    resent_case (λ (y : ℕ). y ≡ x) ops x
    (λ h. let l : target_of (parts x) ≤ length ops = leb-true (target_of (parts x)) (length ops) (sym (pick_true (holds_pc x) _ _ h) ∙ w) in
    rw (sent-same ops (target_of (parts x)) k l, aimed_target (parts x) (bytes_parts x)) (word-parts x))
    (λ h. refl)

restarted_self : (ops : List ℕ) → all_kept ops ≡ true → (f : ℕ) → start_within (length ops) f ≡ true → restarted ops f ≡ f
restarted_self ops k f w =
    restarted_case (λ (g : ℕ). g ≡ f) ops f
    (λ h. let l : function_number f ≤ length ops = leb-true (function_number f) (length ops) (sym (pick_true (eqb (function_kind f) bytecode) _ _ h) ∙ w) in
    let e : f % 4 ≡ 1 = eqb-true (function_kind f) bytecode h in
    rw (sent-same ops (function_number f) k l) (omega arith))
    (λ h. refl)

pub no_nop : NoNop
unfolding compact_ops compact_targets compact_functions
no_nop ops spans targets functions h l p =
    let n = length ops in
    let k = without-kept ops h in
    let a = both-pass (ops_within n ops) (pick (all_within n targets) (starts_within n functions) false) p in
    let b = both-pass (all_within n targets) (starts_within n functions) a.1 in
    record {
      ops_same = rw (kept_same ops k) (maps_agree (ops_in n) (resent ops) (λ x. x) (resent_self ops k) ops a.0 ∙ map-id ops);
      spans_same = spans_same ops spans k l;
      targets_same = maps_agree (targets_in n) (sent ops) (λ t. t) (λ t e. sent-same ops t k (leb-true t n e)) targets b.0 ∙ map-id targets;
      functions_same = maps_agree (starts_in n) (restarted ops) (λ f. f) (restarted_self ops k) functions b.1 ∙ map-id functions;
    }

-- what compaction leaves
module _ (ops : List ℕ) where
  left-length : length (compact_ops ops) ≡ length (kept_ops ops)
  unfolding compact_ops
  left-length = length-map (kept_ops ops) (resent ops)

  left-without : WithoutNop (compact_ops ops)
  unfolding compact_ops
  left-without =
      kept-without (map (resent ops) (kept_ops ops)) (every_map stayed stayed (resent ops) (resent-stays ops) (kept_ops ops) (kept_stay ops))

  left_words : all_ops ops ≡ true → all_ops (compact_ops ops) ≡ true
  unfolding compact_ops
  left_words h = every_map words words (resent ops) (resent-allowed ops) (kept_ops ops) (every-kept words ops h)

  left_pcs : (targets functions : List ℕ) → length ops ≤ most_of_a_kind
      → pcs_ok (length (compact_ops ops)) (compact_ops ops) (compact_targets ops targets) (compact_functions ops functions) ≡ true
  unfolding compact_ops compact_targets compact_functions
  left_pcs targets functions l =
      let n = length (map (resent ops) (kept_ops ops)) in
      let e : n ≡ length (kept_ops ops) = length-map (kept_ops ops) (resent ops) in
      let a : ops_within n (map (resent ops) (kept_ops ops)) ≡ true
      = every_map stayed (ops_in n) (resent ops) (λ x q. resent-within ops n x e l) (kept_ops ops) (kept_stay ops) in
      let b : all_within n (map (sent ops) targets) ≡ true
      = every_map anything (targets_in n) (sent ops) (λ t q. le-leb (sent ops t) n (omega (arith, sent_most ops t))) targets refl in
      let d : starts_within n (map (restarted ops) functions) ≡ true
      = every_map anything (starts_in n) (restarted ops) (λ f q. restarted-within ops n f e) functions refl in
      rw (a, b, d)

pub compact_twice : CompactTwice
compact_twice ops spans targets functions l s =
    let e : length (kept_spans ops spans) ≡ length (compact_ops ops) = spans_length ops spans (sym s) ∙ sym (left-length ops) in
    no_nop (compact_ops ops) (kept_spans ops spans) (compact_targets ops targets) (compact_functions ops functions)
    (left-without ops) e (left_pcs ops targets functions l)

-- where a pc is sent
is_nop_lem : (x : ℕ) → x ≢ 0 → is_nop x ≡ false
is_nop_lem x h = ne_eqb x 0 h

sent-next : (ops : List ℕ) (pc : ℕ) → get_or ops pc 0 ≡ 0 → sent ops pc ≡ sent ops (pc + 1)
sent-next ops pc e =
    ⊎_elim
    (λ (h : pc < length ops). sym (rw e at (sent-turn ops pc h) ∙ add-zero (sent ops pc)))
    (λ (h : length ops ≤ pc). sent-past ops pc h ∙ sym (sent-past ops (pc + 1) (omega arith)))
    (lt? pc (length ops))

sent_nops : (ops : List ℕ) (n pc : ℕ) → ((k : ℕ) → k < n → get_or ops (pc + k) 0 ≡ 0) → sent ops pc ≡ sent ops (pc + n)
sent_nops ops zero pc h = rw (add-zero pc)
sent_nops ops (suc n) pc h =
    let a : pc + 0 ≡ pc = add-zero pc in
    let b : pc + 1 + n ≡ pc + suc n = omega arith in
    sent-next ops pc (rw a at (h zero (omega arith)))
    ∙ sent_nops ops n (pc + 1) (λ k l. let d : pc + 1 + k ≡ pc + suc k = omega arith in rw d (h (suc k) (omega arith)))
    ∙ ap (sent ops) b

op_at_lem : (ops : List ℕ) (pc : ℕ) → pc < length ops → get_or ops pc 0 ≢ 0 → get_or (compact_ops ops) (sent ops pc) 0 ≡ resent ops (get_or ops pc 0)
unfolding compact_ops sent
op_at_lem ops pc h n =
    let ks = kept_ops (take pc ops) in
    let e : length (map (resent ops) ks) ≡ length ks = length-map ks (resent ops) in
    rw (kept_at ops pc h (is_nop_lem (get_or ops pc 0) n), map-append (resent ops) ks (get_or ops pc 0 ∷ kept_ops (drop (suc pc) ops)))
    (get_or_at (map (resent ops) ks) (resent ops (get_or ops pc 0)) (map (resent ops) (kept_ops (drop (suc pc) ops))) 0 (length ks) e)

span_beside : (ops spans : List ℕ) (pc : ℕ) → length spans ≡ length ops → pc < length ops → get_or ops pc 0 ≢ 0
    → get_or (kept_spans ops spans) (sent ops pc) 0 ≡ get_or spans pc 0
unfolding sent
span_beside ops spans pc l h n =
    let m : length (take pc ops) ≡ length (take pc spans) = simp length-take (omega arith) in
    let e : length (kept_spans (take pc ops) (take pc spans)) ≡ length (kept_ops (take pc ops)) = spans_length (take pc ops) (take pc spans) m in
    rw (spans_at ops spans pc l h (is_nop_lem (get_or ops pc 0) n))
    (get_or_at (kept_spans (take pc ops) (take pc spans)) (get_or spans pc 0) (kept_spans (drop (suc pc) ops) (drop (suc pc) spans)) 0 (length (kept_ops (take pc ops))) e)

pub compaction_right : (ops : List ℕ) → CompactionRight ops
compaction_right ops =
    record {
      no_nop_left = left-without ops;
      compact_length = left-length ops;
      compact_at = op_at_lem ops;
      span_at = span_beside ops;
      sent_nop = sent-next ops;
      sent_on = λ pc n. sent_nops ops n pc;
      sent_end = λ pc h. sent-past ops pc h ∙ sym (left-length ops);
    }

-- the start of a buffer that was written from the front
front : (l xs : List ℕ) (n : ℕ) → length xs ≡ n → n ≤ length l → take n (sets l 0 xs) ≡ xs
front l xs n e h = rw (sets-front l xs (rw e h), e) (take_at xs (drop n l) n e)

-- a call with nothing to refuse and nothing to do
settled : (n m : ℕ) (ops spans targets functions work : List ℕ) → Unrefused n m ops spans targets functions work
    → Unchanged (take n ops) (take n spans) (take m targets) functions → zero_from work 0 ≡ work
    → outcome_of n m ops spans targets functions work
    ≡ record { number = 0; used = n; ops = ops; spans = spans; targets = targets; functions = functions; work = work }
unfolding outcome_of
settled n m ops spans targets functions work u c z =
    rw (
      eq-eqb (refusal n m ops spans targets functions work) 0 (nothing-refused u),
      c.ops_same,
      c.spans_same,
      c.targets_same,
      c.functions_same,
      z,
      length-take-le n ops u.in_ops,
      sets_self n ops u.in_ops,
      sets_self n spans u.in_spans,
      sets_self m targets u.in_targets,
    )

-- what a call leaves that is not refused
module _ (used m : ℕ) (ops spans targets functions work : List ℕ) (u : Unrefused used m ops spans targets functions work) where
  abbrev n : ℕ
  n = length (compact_ops (take used ops))

  fewer : n ≤ used
  fewer = omega (arith, left-length (take used ops), kept_le (take used ops), length-take used ops)

  spans_there : length (take used spans) ≡ length (take used ops)
  spans_there = length-take-le used spans u.in_spans ∙ sym (length-take-le used ops u.in_ops)

  spans_many : length (kept_spans (take used ops) (take used spans)) ≡ n
  spans_many = spans_length (take used ops) (take used spans) (sym spans_there) ∙ sym (left-length (take used ops))

  targets_many : length (compact_targets (take used ops) (take m targets)) ≡ m
  unfolding compact_targets
  targets_many = length-map (take m targets) (sent (take used ops)) ∙ length-take-le m targets u.in_targets

  few_left : length (take used ops) ≤ most_of_a_kind
  few_left = omega (arith, u.few, length-take used ops)

  ops-front : take n (sets ops 0 (compact_ops (take used ops))) ≡ compact_ops (take used ops)
  ops-front = front ops (compact_ops (take used ops)) n refl (omega (arith, fewer, u.in_ops))

  spans_front : take n (sets spans 0 (kept_spans (take used ops) (take used spans))) ≡ kept_spans (take used ops) (take used spans)
  spans_front = front spans (kept_spans (take used ops) (take used spans)) n spans_many (omega (arith, fewer, u.in_spans))

  targets_front : take m (sets targets 0 (compact_targets (take used ops) (take m targets))) ≡ compact_targets (take used ops) (take m targets)
  targets_front = front targets (compact_targets (take used ops) (take m targets)) m targets_many u.in_targets

  again : Unrefused n m (sets ops 0 (compact_ops (take used ops))) (sets spans 0 (kept_spans (take used ops) (take used spans)))
      (sets targets 0 (compact_targets (take used ops) (take m targets))) (compact_functions (take used ops) functions) (zero_from work 0)
  again =
      let p = left_pcs (take used ops) (take m targets) functions few_left in
      let a = both-pass (ops_within n (compact_ops (take used ops))) _ p in
      let b = both-pass (all_within n (compact_targets (take used ops) (take m targets))) _ a.1 in
      record {
        words = rw ops-front (left_words (take used ops) u.words);
        in_ops = rw (length-sets ops 0 (compact_ops (take used ops))) (omega (arith, fewer, u.in_ops));
        in_spans = rw (length-sets spans 0 (kept_spans (take used ops) (take used spans))) (omega (arith, fewer, u.in_spans));
        in_targets = rw (length-sets targets 0 (compact_targets (take used ops) (take m targets))) u.in_targets;
        few = omega (arith, fewer, u.few);
        room = rw (length-zero_from work 0) (omega (arith, fewer, u.room));
        ops_are_within = rw ops-front a.0;
        targets_within = rw targets_front b.0;
        starts_are_within = b.1;
      }

  same-again : Unchanged (take n (sets ops 0 (compact_ops (take used ops)))) (take n (sets spans 0 (kept_spans (take used ops) (take used spans))))
      (take m (sets targets 0 (compact_targets (take used ops) (take m targets)))) (compact_functions (take used ops) functions)
  same-again =
      rw (ops-front, spans_front, targets_front)
      (compact_twice (take used ops) (take used spans) (take m targets) functions few_left spans_there)

-- the number is the refusal's
number_is : (used m : ℕ) (ops spans targets functions work : List ℕ)
    → (outcome_of used m ops spans targets functions work).number ≡ refusal used m ops spans targets functions work
unfolding outcome_of
number_is used m ops spans targets functions work =
    pick_case (λ (o : Outcome). o.number ≡ refusal used m ops spans targets functions work) (eqb (refusal used m ops spans targets functions work) 0) _ _
    (λ e. sym (eqb-true (refusal used m ops spans targets functions work) 0 e))
    (λ e. refl)

pub called_twice : CalledTwice
unfolding outcome_of
called_twice used m ops spans targets functions work o e z =
    let r : refusal used m ops spans targets functions work ≡ 0
    = sym (number_is used m ops spans targets functions work) ∙ sym (ap (λ (q : Outcome). q.number) e) ∙ z in
    let u = unrefused used m ops spans targets functions work r in
    let d = e ∙ pick_true (eqb (refusal used m ops spans targets functions work) 0) _ _ (eq-eqb (refusal used m ops spans targets functions work) 0 r) in
    rw d
    (settled (length (compact_ops (take used ops))) m (sets ops 0 (compact_ops (take used ops))) (sets spans 0 (kept_spans (take used ops) (take used spans)))
    (sets targets 0 (compact_targets (take used ops) (take m targets))) (compact_functions (take used ops) functions) (zero_from work 0)
    (again used m ops spans targets functions work u)
    (same-again used m ops spans targets functions work u)
    (zero_from-zero_from work 0))
