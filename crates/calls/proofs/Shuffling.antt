-- The moves of arguments into registers 0 and up, pair by pair.
use mathlib.Core.Path.{◌≡◌, refl, ap, ◌∙◌}
use mathlib.Core.List.{List, [], ◌∷◌, ◌++◌}
use Prim.Native.Nat.{ℕ, ◌+◌}
use native.Mathlib.Nat.{add_assoc, add-zero}
use Rattle.base.specs.declared.Pen.{Pen}
use Rattle.base.specs.Emission.{emit_all}
use Rattle.base.specs.Lent.{Lowers}
use Rattle.base.proofs.Pens.{renamed}
use Rattle.machine.specs.Stack.{raised}
use Rattle.moves.specs.Moves.{move_words}
use Rattle.input.specs.Layout.{pool_at, list_at}
use Rattle.fit.proofs.Counts.{Counted}
use Rattle.lower.specs.Operands.{place_at}
use Rattle.edges.specs.Pairs.{differing_sources, differing_destinations, move_pairs}
use Rattle.edges.proofs.Columns.{first_source, first-destination}
use Rattle.calls.specs.Calls.{argument_places, argument_regs, shuffle}

module _ (ws places : List ℕ) (pushes : ℕ) where
  -- where arguments come from, and where they go, the first of them into register r
  abbrev pub shuffled_from : ℕ → List ℕ → List ℕ
  shuffled_from r vs = differing_sources (argument_places places pushes vs) (argument_regs r vs)

  abbrev pub shuffled_to : ℕ → List ℕ → List ℕ
  shuffled_to r vs = differing_destinations (argument_places places pushes vs) (argument_regs r vs)

  -- the place of an argument
  abbrev pub argument_at : ℕ → ℕ
  argument_at i = raised pushes (place_at places (pool_at ws i))

  -- what a loop over n of them counts
  module _ (at : ℕ) where
    pub from-counted : Counted (λ (j k : ℕ). shuffled_from j (list_at ws (at + j) k)) (λ (n : ℕ). shuffled_from 0 (list_at ws at n)) []
        (λ (j : ℕ). ◌++◌ (differing_sources (argument_at (at + j) ∷ []) (j ∷ [])))
    unfolding list_at
    from-counted =
        record {
          starts = λ (n : ℕ). ap (λ (a : ℕ). shuffled_from 0 (list_at ws a n)) (add-zero at);
          turns = λ (j k : ℕ).
              first_source (argument_at (at + j)) j (argument_places places pushes (list_at ws (at + j + 1) k)) (argument_regs (j + 1) (list_at ws (at + j + 1) k))
              ∙ ap (λ (a : ℕ). differing_sources (argument_at (at + j) ∷ []) (j ∷ []) ++ shuffled_from (j + 1) (list_at ws a k)) (add_assoc at j 1);
          ends = λ (j : ℕ). refl;
        }

    pub to_counted : Counted (λ (j k : ℕ). shuffled_to j (list_at ws (at + j) k)) (λ (n : ℕ). shuffled_to 0 (list_at ws at n)) []
        (λ (j : ℕ). ◌++◌ (differing_destinations (argument_at (at + j) ∷ []) (j ∷ [])))
    unfolding list_at
    to_counted =
        record {
          starts = λ (n : ℕ). ap (λ (a : ℕ). shuffled_to 0 (list_at ws a n)) (add-zero at);
          turns = λ (j k : ℕ).
              first-destination (argument_at (at + j)) j (argument_places places pushes (list_at ws (at + j + 1) k))
              (argument_regs (j + 1) (list_at ws (at + j + 1) k))
              ∙ ap (λ (a : ℕ). differing_destinations (argument_at (at + j) ∷ []) (j ∷ []) ++ shuffled_to (j + 1) (list_at ws a k)) (add_assoc at j 1);
          ends = λ (j : ℕ). refl;
        }

-- the moves of the two columns are the shuffle
pub shuffled : (n : ℕ) (places : List ℕ) (pushes : ℕ) (vs ss ds : List ℕ) {o b l o' b' : List ℕ} {p p' : Pen}
    → ss ≡ differing_sources (argument_places places pushes vs) (argument_regs 0 vs)
    → ds ≡ differing_destinations (argument_places places pushes vs) (argument_regs 0 vs)
    → Lowers (emit_all (move_words n ss ds)) o b l p o' b' l p' → Lowers (shuffle n places pushes vs) o b l p o' b' l p'
unfolding shuffle move_pairs
shuffled n places pushes vs ss ds es ed s = renamed s (λ q. rw (es, ed))
