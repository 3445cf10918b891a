-- Compaction: Nops go, the other ops keep their order and spans. A pc is sent to its own op, or the next that is not Nop, or the end.
use Rattle.std.specs.Prelude.{ℕ, Bool, true, List, [], ◌∷◌, map, eqb, length, take}
use Rattle.base.specs.Choice.{pick}
use Rattle.op.specs.Words.{word, parts}
use Rattle.op.specs.Targets.{is_jump, is_entry, target_of, aimed}
use Rattle.program.specs.Functions.{function_kind, function_number, function_at, bytecode}

-- Nop is the word 0
abbrev pub is_nop : ℕ → Bool
is_nop x = eqb x 0

-- the ops that stay, and the spans beside them
unfoldable pub kept_ops : List ℕ → List ℕ
kept_ops [] = []
kept_ops (x ∷ xs) = pick (is_nop x) (kept_ops xs) (x ∷ kept_ops xs)

unfoldable pub kept_spans : List ℕ → List ℕ → List ℕ
kept_spans [] spans = []
kept_spans (x ∷ xs) [] = []
kept_spans (x ∷ xs) (s ∷ spans) = pick (is_nop x) (kept_spans xs spans) (s ∷ kept_spans xs spans)

-- where a pc is sent: behind the ops before it that stay
unfoldable pub sent : List ℕ → ℕ → ℕ
sent ops pc = length (kept_ops (take pc ops))

-- an op word that holds a pc, a jump, Call or Tail, holds where it is sent
abbrev pub holds_pc : ℕ → Bool
holds_pc x = pick (is_jump (parts x).code) true (is_entry (parts x).code)

unfoldable pub resent : List ℕ → ℕ → ℕ
resent ops x = pick (holds_pc x) (word (aimed (sent ops (target_of (parts x))) (parts x))) x

-- so does the start of a bytecode function
unfoldable pub restarted : List ℕ → ℕ → ℕ
restarted ops f = pick (eqb (function_kind f) bytecode) (function_at bytecode (sent ops (function_number f))) f

-- the whole: ops, and entries of switch tables, and the function table
unfoldable pub compact_ops : List ℕ → List ℕ
compact_ops ops = map (resent ops) (kept_ops ops)

unfoldable pub compact_targets : List ℕ → List ℕ → List ℕ
compact_targets ops targets = map (sent ops) targets

unfoldable pub compact_functions : List ℕ → List ℕ → List ℕ
compact_functions ops functions = map (restarted ops) functions
