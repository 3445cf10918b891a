-- Columns that are filled from the front: what stands in one and what is left to add make up the whole.
use mathlib.Core.Path.{◌≡◌, refl, sym, ap, ◌∙◌}
use mathlib.Core.Bool.{Bool, true, false}
use mathlib.Core.List.{List, [], ◌∷◌, ◌++◌, append_assoc, append-nil}
use Prim.Native.Nat.{ℕ}
use lib.Dec.{eqb}
use lib.ListN.{take}
use Rattle.base.specs.Choice.{pick}
use Rattle.edges.specs.Pairs.{differing_sources, differing_destinations}

pub record Toward (rest whole col : List ℕ) (m : ℕ) : Type 0 where
  pub is : take m col ++ rest ≡ whole

-- a turn adds what comes first
pub toward_turn : {rest whole col : List ℕ} {m : ℕ} (step rest' col' : List ℕ) (m' : ℕ) → Toward rest whole col m → rest ≡ step ++ rest'
    → take m' col' ≡ take m col ++ step → Toward rest' whole col' m'
toward_turn {col = col} {m = m} step rest' col' m' t e f =
    record { is = ap (λ (l : List ℕ). l ++ rest') f ∙ append_assoc (take m col) step rest' ∙ ap (λ (l : List ℕ). take m col ++ l) (sym e) ∙ t.is }

-- where nothing is left the column holds all
pub toward_end : {rest whole col : List ℕ} {m : ℕ} → Toward rest whole col m → rest ≡ [] → take m col ≡ whole
toward_end {col = col} {m = m} t e = sym (append-nil (take m col)) ∙ ap (λ (l : List ℕ). take m col ++ l) (sym e) ∙ t.is

-- of columns of pairs, the first pair and the others
more : (t : Bool) (x : ℕ) (xs : List ℕ) → pick t xs (x ∷ xs) ≡ pick t [] (x ∷ []) ++ xs
more true x xs = refl
more false x xs = refl

pub first_source : (s d : ℕ) (ss ds : List ℕ) → differing_sources (s ∷ ss) (d ∷ ds) ≡ differing_sources (s ∷ []) (d ∷ []) ++ differing_sources ss ds
first_source s d ss ds = more (eqb s d) s (differing_sources ss ds)

pub first-destination : (s d : ℕ) (ss ds : List ℕ)
    → differing_destinations (s ∷ ss) (d ∷ ds) ≡ differing_destinations (s ∷ []) (d ∷ []) ++ differing_destinations ss ds
first-destination s d ss ds = more (eqb s d) d (differing_destinations ss ds)
