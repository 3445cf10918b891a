-- Edges and branches. Block b has the label b, the no path of its branch the label blocks + b, pads the labels from 2 · blocks on.
use Rattle.std.specs.Prelude.{ℕ, zero, suc, ◌+◌, Bool, List, [], ◌∷◌, ltb, eqb, length}
use Rattle.base.specs.Choice.{pick}
use Rattle.base.specs.Emission.{Out, emit, bind}
use Rattle.op.specs.declared.Op.{Op}
use Rattle.op.specs.Words.{word}
use Rattle.op.specs.Ops.{jmp}
use Rattle.op.specs.Targets.{aimed}
use Rattle.input.specs.Layout.{blocks}
use Rattle.input.specs.Records.{params_of, edge_target, arguments_of}
use Rattle.fit.specs.Intervals.{unread}
use Rattle.lower.specs.Operands.{place_at}
use Rattle.edges.specs.Pairs.{differing_sources, move_pairs}

-- the places of the arguments and of the parameters, none for an unread parameter
abbrev pub read_sources : List ℕ → List ℕ → List ℕ → List ℕ → List ℕ
read_sources ws map [] ps = []
read_sources ws map (a ∷ xs) [] = []
read_sources ws map (a ∷ xs) (p ∷ ps) = pick (unread ws p) (read_sources ws map xs ps) (place_at map a ∷ read_sources ws map xs ps)

abbrev pub read_destinations : List ℕ → List ℕ → List ℕ → List ℕ → List ℕ
read_destinations ws map [] ps = []
read_destinations ws map (a ∷ xs) [] = []
read_destinations ws map (a ∷ xs) (p ∷ ps) =
    pick (unread ws p) (read_destinations ws map xs ps) (place_at map p ∷ read_destinations ws map xs ps)

unfoldable pub edge_sources : List ℕ → List ℕ → ℕ → List ℕ
edge_sources ws map e = read_sources ws map (arguments_of ws e) (params_of ws (edge_target ws e))

unfoldable pub edge_destinations : List ℕ → List ℕ → ℕ → List ℕ
edge_destinations ws map e = read_destinations ws map (arguments_of ws e) (params_of ws (edge_target ws e))

unfoldable pub has_moves : List ℕ → List ℕ → ℕ → Bool
has_moves ws map e = ltb 0 (length (differing_sources (edge_sources ws map e) (edge_destinations ws map e)))

-- no block: where a Jmp may not be dropped
abbrev pub nowhere : List ℕ → ℕ
nowhere ws = blocks ws

-- An edge emits its moves, then Jmp, which is dropped when the target is the next live block.
unfoldable pub jump_to : ℕ → ℕ → Out → Out
jump_to next target o = pick (eqb target next) o (emit (word (jmp target)) o)

unfoldable pub edge : ℕ → List ℕ → List ℕ → ℕ → ℕ → Out → Out
edge n ws map next e o = jump_to next (edge_target ws e) (move_pairs n (edge_sources ws map e) (edge_destinations ws map e) o)

-- a jump, given without its target, to a label
abbrev pub jump_at : Op → ℕ → ℕ
jump_at jump label = word (aimed label jump)

-- Branch, with edges no at e and yes behind it: a jump to the no block, then the yes edge. If the no edge has moves: a jump to a label, the
-- yes edge always ending in Jmp, then the no edge at the label.
unfoldable pub branch : ℕ → List ℕ → List ℕ → Op → ℕ → ℕ → ℕ → Out → Out
branch n ws map jump label next e o =
    pick (has_moves ws map e)
    (edge n ws map next e (bind label (edge n ws map (nowhere ws) (e + 1) (emit (jump_at jump label) o))))
    (edge n ws map next (e + 1) (emit (jump_at jump (edge_target ws e)) o))

-- A case with moves gets a pad: of k cases, the edges from e on, with labels from `label` on
unfoldable pub pad_count : List ℕ → List ℕ → ℕ → ℕ → ℕ
pad_count ws map e zero = 0
pad_count ws map e (suc k) = pick (has_moves ws map e) 1 0 + pad_count ws map (e + 1) k

unfoldable pub pads : ℕ → List ℕ → List ℕ → ℕ → ℕ → ℕ → Out → Out
pads n ws map label e zero o = o
pads n ws map label e (suc k) o =
    pick (has_moves ws map e) (pads n ws map (label + 1) (e + 1) k (edge n ws map (nowhere ws) e (bind label o))) (pads n ws map label (e + 1) k o)

-- The default edge, behind those of the cases, and the pads follow; with pads between, the default can't fall through.
unfoldable pub switch_edges : ℕ → List ℕ → List ℕ → ℕ → ℕ → ℕ → ℕ → Out → Out
switch_edges n ws map label next e cases o =
    pads n ws map label e cases (edge n ws map (pick (eqb (pad_count ws map e cases) 0) next (nowhere ws)) (e + cases) o)
