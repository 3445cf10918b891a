-- The walk over live blocks and rows, as a flat list of steps.
use Rattle.std.specs.Prelude.{ℕ, zero, suc, ◌+◌, Bool, true, List, [], ◌∷◌, ◌++◌, ltb, eqb}
use Rattle.base.specs.Choice.{pick}
use Rattle.input.specs.Records.{params_of, first_edge, edge_count, edge_target, arguments_of, instr_kind, call, sys}
use Rattle.rows.specs.Rows.{Row, params, instr, term, rows_of, over_rows, defined_by}

pub data Step : Type 0 where
  -- at a row, value v to register k; value v at a row; the registers at a row, for the value that the call defines; the register of an argument
  -- for a parameter
  pin : (row k v : ℕ) → Step
  place : (row v : ℕ) → Step
  note : (row value : ℕ) → Step
  hint : (argument parameter : ℕ) → Step

-- block 0 pins parameter i to register i; every other definition is placed at its row
unfoldable pub pins : ℕ → ℕ → List ℕ → List Step
pins r k [] = []
pins r k (v ∷ vs) = pin r k v ∷ pins r (k + 1) vs

unfoldable pub places : ℕ → List ℕ → List Step
places r [] = []
places r (v ∷ vs) = place r v ∷ places r vs

-- a Call or Sys has one destination, and no value is defined twice: what is noted at a call is kept by the value that it defines
unfoldable pub notes : ℕ → List ℕ → List Step
notes r [] = []
notes r (v ∷ vs) = note r v ∷ notes r vs

-- hints after each block, only along edges to a higher block, in bc's order: the order of the edges' table
unfoldable pub hints : List ℕ → List ℕ → List Step
hints [] ps = []
hints (a ∷ xs) [] = []
hints (a ∷ xs) (p ∷ ps) = hint a p ∷ hints xs ps

unfoldable pub edge_hints : List ℕ → ℕ → ℕ → List Step
edge_hints ws b e = pick (ltb b (edge_target ws e)) (hints (arguments_of ws e) (params_of ws (edge_target ws e))) []

unfoldable pub edges_hints : List ℕ → ℕ → ℕ → ℕ → List Step
edges_hints ws b e zero = []
edges_hints ws b e (suc n) = edge_hints ws b e ++ edges_hints ws b (e + 1) n

-- before a Call or Sys destination is placed, note registers
abbrev pub is_call : List ℕ → ℕ → Bool
is_call ws i = pick (eqb (instr_kind ws i) call) true (eqb (instr_kind ws i) sys)

unfoldable pub row_steps : List ℕ → ℕ → Row → List Step
row_steps ws r (params b) = pick (eqb b 0) (pins r 0 (params_of ws b)) (places r (params_of ws b))
row_steps ws r (instr i) = pick (is_call ws i) (notes r (defined_by ws i)) [] ++ places r (defined_by ws i)
row_steps ws r (term b) = edges_hints ws b (first_edge ws b) (edge_count ws b)

abbrev pub steps_of : List ℕ → List Step
steps_of ws = over_rows (row_steps ws) 0 (rows_of ws)
