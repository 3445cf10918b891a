-- The entry: what it answers, and what the lent buffers hold afterwards.
use Rattle.std.specs.Prelude.{ℕ, ◌+◌, Bool, true, false, List, [], ◌∷◌, Result, Ok, Err, leb, eqb, length, take}
use Rattle.std.proofs.lemmas.List.Edits.{sets}
use Rattle.base.specs.Choice.{pick}
use Rattle.base.specs.Limits.{most_of_a_kind}
use Rattle.base.specs.Buffers.{zero_from}
use Rattle.refusal.specs.declared.Refusal.{Refusal}
use Rattle.refusal.specs.Numbers as numbers
use Rattle.op.specs.Words.{parts, allowed}
use Rattle.op.specs.Targets.{target_of}
use Rattle.program.specs.Functions.{function_kind, function_number, bytecode}
use Rattle.compact.specs.Compaction.{holds_pc, kept_spans, compact_ops, compact_targets, compact_functions}

-- document 01's number of each answer, and the new used length
abbrev pub number_for : Result ℕ Refusal → ℕ
number_for answer = numbers.number_for answer

abbrev pub used_for : Result ℕ Refusal → ℕ
used_for (Ok used) = used
used_for (Err why) = 0

-- 1: a word that is no op
abbrev pub all_ops : List ℕ → Bool
all_ops [] = true
all_ops (x ∷ xs) = pick (allowed (parts x)) (all_ops xs) false

-- 2: a used length beyond its buffer, or more ops than a program may have
abbrev pub counts_ok : ℕ → ℕ → List ℕ → List ℕ → List ℕ → Bool
counts_ok used target_count ops spans targets =
    pick (leb used (length ops)) (pick (leb used (length spans)) (pick (leb target_count (length targets)) (leb used most_of_a_kind) false) false) false

-- 9: the work room is a word for each pc, the end among them
abbrev pub room_ok : ℕ → List ℕ → Bool
room_ok used work = leb (used + 1) (length work)

-- 11: a target or pc beyond the op count
abbrev pub ops_within : ℕ → List ℕ → Bool
ops_within used [] = true
ops_within used (x ∷ xs) = pick (pick (holds_pc x) (leb (target_of (parts x)) used) true) (ops_within used xs) false

abbrev pub all_within : ℕ → List ℕ → Bool
all_within used [] = true
all_within used (t ∷ ts) = pick (leb t used) (all_within used ts) false

abbrev pub starts_within : ℕ → List ℕ → Bool
starts_within used [] = true
starts_within used (f ∷ fs) = pick (pick (eqb (function_kind f) bytecode) (leb (function_number f) used) true) (starts_within used fs) false

abbrev pub pcs_ok : ℕ → List ℕ → List ℕ → List ℕ → Bool
pcs_ok used ops targets functions = pick (ops_within used ops) (pick (all_within used targets) (starts_within used functions) false) false

-- the refusal, the lowest number that applies, 0 for none
unfoldable pub refusal : ℕ → ℕ → List ℕ → List ℕ → List ℕ → List ℕ → List ℕ → ℕ
refusal used target_count ops spans targets functions work =
    pick (all_ops (take used ops))
    (pick (counts_ok used target_count ops spans targets)
    (pick (room_ok used work)
    (pick (pcs_ok used (take used ops) (take target_count targets) functions)
    0
    11)
    9)
    2)
    1

-- what comes back: the number, the new used length, and every lent buffer
pub record Outcome : Type 0 where
  pub number : ℕ
  pub used : ℕ
  pub ops : List ℕ
  pub spans : List ℕ
  pub targets : List ℕ
  pub functions : List ℕ
  pub work : List ℕ

abbrev pub outcome : Result ℕ Refusal → List ℕ → List ℕ → List ℕ → List ℕ → List ℕ → Outcome
outcome answer ops spans targets functions work =
    record { number = number_for answer; used = used_for answer; ops = ops; spans = spans; targets = targets; functions = functions; work = work }

-- Done: what lies past the new used length is untouched. A refused call changes nothing. The work room ends zero either way.
unfoldable pub outcome_of : ℕ → ℕ → List ℕ → List ℕ → List ℕ → List ℕ → List ℕ → Outcome
outcome_of used target_count ops spans targets functions work =
    pick (eqb (refusal used target_count ops spans targets functions work) 0)
    (record {
      number = 0;
      used = length (compact_ops (take used ops));
      ops = sets ops 0 (compact_ops (take used ops));
      spans = sets spans 0 (kept_spans (take used ops) (take used spans));
      targets = sets targets 0 (compact_targets (take used ops) (take target_count targets));
      functions = compact_functions (take used ops) functions;
      work = zero_from work 0;
    })
    (record {
      number = refusal used target_count ops spans targets functions work;
      used = 0;
      ops = ops;
      spans = spans;
      targets = targets;
      functions = functions;
      work = zero_from work 0;
    })
