-- What is proved of compaction, whatever the ops: the statements, whose proofs are in proofs/Theorems.antt.
use Rattle.std.specs.Prelude.{◌≡◌, ◌≢◌, true, List, ℕ, ◌+◌, ◌≤◌, ◌<◌, length, get_or}
use Rattle.base.specs.Limits.{most_of_a_kind}
use Rattle.compact.specs.Compaction.{kept_ops, kept_spans, sent, resent, compact_ops, compact_targets, compact_functions}
use Rattle.compact.specs.Entry.{pcs_ok, Outcome, outcome_of}

-- no word is Nop's
abbrev pub WithoutNop : List ℕ → Type 0
WithoutNop ops = (pc : ℕ) → pc < length ops → get_or ops pc 0 ≢ 0

pub record CompactionRight (ops : List ℕ) : Type 0 where
  -- no Nop is left, and all else is
  pub no_nop_left : WithoutNop (compact_ops ops)
  pub compact_length : length (compact_ops ops) ≡ length (kept_ops ops)
  -- a pc whose op is not Nop is sent to that op, which has its own pc sent on and its span beside it
  pub compact_at : (pc : ℕ) → pc < length ops → get_or ops pc 0 ≢ 0 → get_or (compact_ops ops) (sent ops pc) 0 ≡ resent ops (get_or ops pc 0)
  pub span_at : (spans : List ℕ) (pc : ℕ) → length spans ≡ length ops → pc < length ops → get_or ops pc 0 ≢ 0
      → get_or (kept_spans ops spans) (sent ops pc) 0 ≡ get_or spans pc 0
  -- a pc whose op is Nop is sent where the next pc is, and so on to the next whose op is not
  pub sent_nop : (pc : ℕ) → get_or ops pc 0 ≡ 0 → sent ops pc ≡ sent ops (pc + 1)
  pub sent_on : (pc n : ℕ) → ((k : ℕ) → k < n → get_or ops (pc + k) 0 ≡ 0) → sent ops pc ≡ sent ops (pc + n)
  -- the end, and what is past it, is sent to the end
  pub sent_end : (pc : ℕ) → length ops ≤ pc → sent ops pc ≡ length (compact_ops ops)

-- compaction changes nothing
pub record Unchanged (ops spans targets functions : List ℕ) : Type 0 where
  pub ops_same : compact_ops ops ≡ ops
  pub spans_same : kept_spans ops spans ≡ spans
  pub targets_same : compact_targets ops targets ≡ targets
  pub functions_same : compact_functions ops functions ≡ functions

-- where there is no Nop and no pc beyond the op count
abbrev pub NoNop : Type 0
NoNop =
    (ops spans targets functions : List ℕ)
    → WithoutNop ops
    → length spans ≡ length ops
    → pcs_ok (length ops) ops targets functions ≡ true
    → Unchanged ops spans targets functions

-- where it was done already
abbrev pub CompactTwice : Type 0
CompactTwice =
    (ops spans targets functions : List ℕ)
    → length ops ≤ most_of_a_kind
    → length spans ≡ length ops
    → Unchanged (compact_ops ops) (kept_spans ops spans) (compact_targets ops targets) (compact_functions ops functions)

-- a second call, on what a call left that was not refused, is not refused and leaves the same
abbrev pub CalledTwice : Type 0
CalledTwice =
    (used target_count : ℕ) (ops spans targets functions work : List ℕ) (o : Outcome)
    → o ≡ outcome_of used target_count ops spans targets functions work
    → o.number ≡ 0
    → outcome_of o.used target_count o.ops o.spans o.targets o.functions o.work ≡ o
