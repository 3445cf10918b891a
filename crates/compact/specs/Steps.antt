-- The steps of the code: a test of one word, and what is sent on by a table that has where each pc is sent.
use Rattle.std.specs.Prelude.{◌≡◌, Bool, true, List, map, ℕ, ◌+◌, ◌≤◌, leb, eqb, length, get_or, take, set}
use Rattle.std.proofs.lemmas.List.Edits.{sets}
use Rattle.base.specs.Choice.{pick}
use Rattle.op.specs.Words.{word, parts}
use Rattle.op.specs.Targets.{target_of, aimed}
use Rattle.program.specs.Functions.{function_kind, function_number, function_at, bytecode}
use Rattle.compact.specs.Compaction.{is_nop, holds_pc, kept_ops, kept_spans, sent}

-- a word, or a word of the function table, holds no pc beyond the op count
abbrev pub op_within : ℕ → ℕ → Bool
op_within used x = pick (holds_pc x) (leb (target_of (parts x)) used) true

abbrev pub start_within : ℕ → ℕ → Bool
start_within used f = pick (eqb (function_kind f) bytecode) (leb (function_number f) used) true

-- the work room has where each pc of the ops is sent, the end's too
pub record Remap (ops work : List ℕ) : Type 0 where
  pub has : (pc : ℕ) → pc ≤ length ops → get_or work pc 0 ≡ sent ops pc

-- the same as `sent`, `resent` and `restarted`, by the work room
abbrev pub sent_by : List ℕ → ℕ → ℕ
sent_by work pc = get_or work pc 0

unfoldable pub resent_by : List ℕ → ℕ → ℕ
resent_by work x = pick (holds_pc x) (word (aimed (sent_by work (target_of (parts x))) (parts x))) x

unfoldable pub restarted_by : List ℕ → ℕ → ℕ
restarted_by work f =
    pick (eqb (function_kind f) bytecode) (function_at bytecode (sent_by work (function_number f))) f

-- one op and its span brought down from r to w
pub record Down (work : List ℕ) (r w : ℕ) (ops spans : List ℕ) (w' : ℕ) (ops' spans' : List ℕ) : Type 0 where
  pub next_is : w' ≡ pick (is_nop (get_or ops r 0)) w (w + 1)
  pub ops_is : ops' ≡ pick (is_nop (get_or ops r 0)) ops (set ops w (resent_by work (get_or ops r 0)))
  pub spans_is : spans' ≡ pick (is_nop (get_or ops r 0)) spans (set spans w (get_or spans r 0))

-- the first r ops and spans brought down
pub record Stripped (work : List ℕ) (r : ℕ) (ops spans : List ℕ) (w' : ℕ) (ops' spans' : List ℕ) : Type 0 where
  pub next_is : w' ≡ length (kept_ops (take r ops))
  pub ops_is : ops' ≡ sets ops 0 (map (resent_by work) (kept_ops (take r ops)))
  pub spans_is : spans' ≡ sets spans 0 (kept_spans (take r ops) (take r spans))
