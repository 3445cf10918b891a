-- The two columns of an edge go in step: the pair at a place of one is that of a read parameter and its argument, and each such pair is there.
use mathlib.Core.Path.{◌≡◌, refl, sym, ap, ◌∙◌}
use mathlib.Core.Logic.{◌≢◌}
use Prim.Native.Nat.{ℕ, zero, suc, ◌<◌, zero-le, suc-le-suc}
use mathlib.Core.List.{List, [], ◌∷◌}
use mathlib.Core.Bool.{Bool, true, false}
use native.Mathlib.Nat.{not-suc-le-zero, le_of_suc-le-suc}
use native.Mathlib.Omega.{arith}
use lib.ListN.{length, get_or}
use Rattle.base.specs.Choice.{pick}
use Rattle.fit.specs.Intervals.{unread}
use Rattle.moves.proofs.Columns.{Each}
use Rattle.moves.proofs.Checked.{Distinct}
use Rattle.lower.specs.Operands.{place_at}
use Rattle.edges.specs.Edges.{read_sources, read_destinations}

module _ (ws map : List ℕ) where
  pub columns_long : (xs ps : List ℕ) → length (read_sources ws map xs ps) ≡ length (read_destinations ws map xs ps)
  columns_long [] ps = refl
  columns_long (a ∷ xs) [] = refl
  columns_long (a ∷ xs) (p ∷ ps) = go (unread ws p) (columns_long xs ps)
    where
      go : (b : Bool) → length (read_sources ws map xs ps) ≡ length (read_destinations ws map xs ps)
          → length (pick b (read_sources ws map xs ps) (place_at map a ∷ read_sources ws map xs ps))
          ≡ length (pick b (read_destinations ws map xs ps) (place_at map p ∷ read_destinations ws map xs ps))
      go true ih = ih
      go false ih = ap suc ih

  -- parameter i is read, and its argument and itself have these places
  pub record Pair (xs ps : List ℕ) (i s d : ℕ) : Type 0 where
    pub argument : i < length xs
    pub parameter : i < length ps
    pub read : unread ws (get_or ps i 0) ≡ false
    pub source : s ≡ place_at map (get_or xs i 0)
    pub destination : d ≡ place_at map (get_or ps i 0)

  pair_later : (a p : ℕ) (xs ps : List ℕ) (i s d : ℕ) → Pair xs ps i s d → Pair (a ∷ xs) (p ∷ ps) (suc i) s d
  pair_later a p xs ps i s d h =
      record {
        argument = suc-le-suc h.argument;
        parameter = suc-le-suc h.parameter;
        read = h.read;
        source = h.source;
        destination = h.destination;
      }

  pair_first : (a p : ℕ) (xs ps : List ℕ) → unread ws p ≡ false → Pair (a ∷ xs) (p ∷ ps) 0 (place_at map a) (place_at map p)
  pair_first a p xs ps e =
      record { argument = suc-le-suc zero-le; parameter = suc-le-suc zero-le; read = e; source = refl; destination = refl }

  -- the pair at place k of the columns
  abbrev pub PairAt : List ℕ → List ℕ → ℕ → Type 0
  PairAt xs ps k = (i : ℕ) × Pair xs ps i (get_or (read_sources ws map xs ps) k 0) (get_or (read_destinations ws map xs ps) k 0)

  pub column_pair : (xs ps : List ℕ) (k : ℕ) → k < length (read_destinations ws map xs ps) → PairAt xs ps k
  column_pair [] ps k h = absurd (not-suc-le-zero h)
  column_pair (a ∷ xs) [] k h = absurd (not-suc-le-zero h)
  column_pair (a ∷ xs) (p ∷ ps) k h = go (unread ws p) refl k h (column_pair xs ps)
    where
      go : (b : Bool) → unread ws p ≡ b → (k : ℕ) → k < length (pick b (read_destinations ws map xs ps) (place_at map p ∷ read_destinations ws map xs ps))
          → ((k : ℕ) → k < length (read_destinations ws map xs ps) → PairAt xs ps k)
          → (i : ℕ) × Pair (a ∷ xs) (p ∷ ps) i (get_or (pick b (read_sources ws map xs ps) (place_at map a ∷ read_sources ws map xs ps)) k 0)
          (get_or (pick b (read_destinations ws map xs ps) (place_at map p ∷ read_destinations ws map xs ps)) k 0)
      go true e k h ih = let q = ih k h in (suc q.0, pair_later a p xs ps q.0 _ _ q.1)
      go false e zero h ih = (0, pair_first a p xs ps e)
      go false e (suc k) h ih = let q = ih k (le_of_suc-le-suc h) in (suc q.0, pair_later a p xs ps q.0 _ _ q.1)

  -- where the pair of a read parameter stands
  pub record Stands (ss ds xs ps : List ℕ) (i : ℕ) : Type 0 where
    pub at : ℕ
    pub within : at < length ds
    pub source : get_or ss at 0 ≡ place_at map (get_or xs i 0)
    pub destination : get_or ds at 0 ≡ place_at map (get_or ps i 0)

  pub pair_column : (xs ps : List ℕ) (i : ℕ) → i < length xs → i < length ps → unread ws (get_or ps i 0) ≡ false
      → Stands (read_sources ws map xs ps) (read_destinations ws map xs ps) xs ps i
  pair_column [] ps i h k u = absurd (not-suc-le-zero h)
  pair_column (a ∷ xs) [] i h k u = absurd (not-suc-le-zero k)
  pair_column (a ∷ xs) (p ∷ ps) zero h k u = rw u (record { at = 0; within = suc-le-suc zero-le; source = refl; destination = refl })
  pair_column (a ∷ xs) (p ∷ ps) (suc i) h k u = go (unread ws p) (pair_column xs ps i (le_of_suc-le-suc h) (le_of_suc-le-suc k) u)
    where
      go : (b : Bool) → Stands (read_sources ws map xs ps) (read_destinations ws map xs ps) xs ps i
          → Stands (pick b (read_sources ws map xs ps) (place_at map a ∷ read_sources ws map xs ps))
          (pick b (read_destinations ws map xs ps) (place_at map p ∷ read_destinations ws map xs ps)) (a ∷ xs) (p ∷ ps) (suc i)
      go true s = record { at = s.at; within = s.within; source = s.source; destination = s.destination }
      go false s = record { at = suc s.at; within = suc-le-suc s.within; source = s.source; destination = s.destination }

  -- read parameters with places of their own
  abbrev pub Apart : List ℕ → Type 0
  Apart ps = (i j : ℕ) → i < length ps → j < length ps → unread ws (get_or ps i 0) ≡ false → unread ws (get_or ps j 0) ≡ false
      → place_at map (get_or ps i 0) ≡ place_at map (get_or ps j 0) → i ≡ j

  apart_later : (p : ℕ) (ps : List ℕ) → Apart (p ∷ ps) → Apart ps
  apart_later p ps a i j h k u v e =
      let f : suc i ≡ suc j = a (suc i) (suc j) (suc-le-suc h) (suc-le-suc k) u v e in
      omega arith

  distinct_cons : (d : ℕ) (l : List ℕ) → Each (λ x. x ≢ d) l → Distinct l → Distinct (d ∷ l)
  distinct_cons d l others ih zero zero h k e = refl
  distinct_cons d l others ih zero (suc j) h k e = absurd (others j (le_of_suc-le-suc k) (sym e))
  distinct_cons d l others ih (suc i) zero h k e = absurd (others i (le_of_suc-le-suc h) e)
  distinct_cons d l others ih (suc i) (suc j) h k e = ap suc (ih i j (le_of_suc-le-suc h) (le_of_suc-le-suc k) e)

  -- no two destinations are equal
  pub columns-once : (xs ps : List ℕ) → Apart ps → Distinct (read_destinations ws map xs ps)
  columns-once [] ps a = λ i j h k e. absurd (not-suc-le-zero h)
  columns-once (x ∷ xs) [] a = λ i j h k e. absurd (not-suc-le-zero h)
  columns-once (x ∷ xs) (p ∷ ps) a = go (unread ws p) refl (columns-once xs ps (apart_later p ps a))
    where
      others : unread ws p ≡ false → Each (λ y. y ≢ place_at map p) (read_destinations ws map xs ps)
      others u k h e =
          let q = column_pair xs ps k h in
          let f : suc q.0 ≡ 0 = a (suc q.0) 0 (suc-le-suc q.1.parameter) (suc-le-suc zero-le) q.1.read u (sym q.1.destination ∙ e) in
          omega arith

      go : (b : Bool) → unread ws p ≡ b → Distinct (read_destinations ws map xs ps)
          → Distinct (pick b (read_destinations ws map xs ps) (place_at map p ∷ read_destinations ws map xs ps))
      go true u ih = ih
      go false u ih = distinct_cons (place_at map p) (read_destinations ws map xs ps) (others u) ih
