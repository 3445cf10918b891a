-- The moves of arguments for parameters, pair by pair.
use mathlib.Core.Path.{◌≡◌, refl, sym, ap, ap₂, ◌∙◌}
use mathlib.Core.Bool.{Bool, true, false}
use mathlib.Core.List.{List, [], ◌∷◌, ◌++◌}
use Prim.Native.Nat.{ℕ, zero, suc, ◌+◌, ◌-◌, ◌<◌, ◌≤◌, min}
use native.Mathlib.Nat.{add_assoc, add-zero, zero-min, min-zero, suc-min-suc}
use native.Mathlib.Omega.{arith}
use borrow.Author.Tests.{lt-ltb}
use lib.Dec.{ltb}
use lib.ListN.{length}
use Rattle.base.specs.Choice.{pick}
use Rattle.input.specs.Layout.{pool_at, list_at}
use Rattle.input.specs.Records.{params_at, param_count, edge_target, arguments_at, argument_count}
use Rattle.fit.specs.Intervals.{unread}
use Rattle.fit.proofs.Counts.{Counted, counted-turn, counted-end}
use Rattle.lower.specs.Operands.{place_at}
use Rattle.edges.specs.Pairs.{differing_sources, differing_destinations}
use Rattle.edges.specs.Edges.{read_sources, read_destinations, edge_sources, edge_destinations, has_moves}
use Rattle.edges.proofs.Columns.{first_source, first-destination}

-- those of a list of arguments for a list of parameters: the places that they come from and go to
abbrev pub moved_from : List ℕ → List ℕ → List ℕ → List ℕ → List ℕ
moved_from ws map xs ps = differing_sources (read_sources ws map xs ps) (read_destinations ws map xs ps)

abbrev pub moved_to : List ℕ → List ℕ → List ℕ → List ℕ → List ℕ
moved_to ws map xs ps = differing_destinations (read_sources ws map xs ps) (read_destinations ws map xs ps)

-- the first pair, where its parameter is read, and the others
first-from : (u : Bool) (s d : ℕ) (ss ds : List ℕ)
    → differing_sources (pick u ss (s ∷ ss)) (pick u ds (d ∷ ds)) ≡ differing_sources (pick u [] (s ∷ [])) (pick u [] (d ∷ [])) ++ differing_sources ss ds
first-from true s d ss ds = refl
first-from false s d ss ds = first_source s d ss ds

first_to : (u : Bool) (s d : ℕ) (ss ds : List ℕ)
    → differing_destinations (pick u ss (s ∷ ss)) (pick u ds (d ∷ ds))
    ≡ differing_destinations (pick u [] (s ∷ [])) (pick u [] (d ∷ [])) ++ differing_destinations ss ds
first_to true s d ss ds = refl
first_to false s d ss ds = first-destination s d ss ds

-- something of two lists is of the first or of the second
some_of_lem : (xs ys : List ℕ) → ltb 0 (length (xs ++ ys)) ≡ pick (ltb 0 (length xs)) true (ltb 0 (length ys))
some_of_lem [] ys = refl
some_of_lem (x ∷ xs) ys = rw (lt-ltb 0 (suc (length (xs ++ ys))) (omega arith), lt-ltb 0 (suc (length xs)) (omega arith))

module _ (ws map : List ℕ) where
  pub from-turn : (a p : ℕ) (xs ps : List ℕ) → moved_from ws map (a ∷ xs) (p ∷ ps) ≡ moved_from ws map (a ∷ []) (p ∷ []) ++ moved_from ws map xs ps
  from-turn a p xs ps = first-from (unread ws p) (place_at map a) (place_at map p) (read_sources ws map xs ps) (read_destinations ws map xs ps)

  pub to_turn : (a p : ℕ) (xs ps : List ℕ) → moved_to ws map (a ∷ xs) (p ∷ ps) ≡ moved_to ws map (a ∷ []) (p ∷ []) ++ moved_to ws map xs ps
  to_turn a p xs ps = first_to (unread ws p) (place_at map a) (place_at map p) (read_sources ws map xs ps) (read_destinations ws map xs ps)

  -- what a loop over n of each counts
  module _ (at to : ℕ) where
    pub from-counted : Counted (λ (j k : ℕ). moved_from ws map (list_at ws (at + j) k) (list_at ws (to + j) k))
        (λ (n : ℕ). moved_from ws map (list_at ws at n) (list_at ws to n)) []
        (λ (j : ℕ). ◌++◌ (moved_from ws map (pool_at ws (at + j) ∷ []) (pool_at ws (to + j) ∷ [])))
    unfolding list_at
    from-counted =
        record {
          starts = λ (n : ℕ). ap₂ (λ (a b : ℕ). moved_from ws map (list_at ws a n) (list_at ws b n)) (add-zero at) (add-zero to);
          turns = λ (j k : ℕ).
              from-turn (pool_at ws (at + j)) (pool_at ws (to + j)) (list_at ws (at + j + 1) k) (list_at ws (to + j + 1) k)
              ∙ ap₂ (λ (a b : ℕ). moved_from ws map (pool_at ws (at + j) ∷ []) (pool_at ws (to + j) ∷ []) ++ moved_from ws map (list_at ws a k) (list_at ws b k))
              (add_assoc at j 1) (add_assoc to j 1);
          ends = λ (j : ℕ). refl;
        }

    pub to_counted : Counted (λ (j k : ℕ). moved_to ws map (list_at ws (at + j) k) (list_at ws (to + j) k))
        (λ (n : ℕ). moved_to ws map (list_at ws at n) (list_at ws to n)) []
        (λ (j : ℕ). ◌++◌ (moved_to ws map (pool_at ws (at + j) ∷ []) (pool_at ws (to + j) ∷ [])))
    unfolding list_at
    to_counted =
        record {
          starts = λ (n : ℕ). ap₂ (λ (a b : ℕ). moved_to ws map (list_at ws a n) (list_at ws b n)) (add-zero at) (add-zero to);
          turns = λ (j k : ℕ).
              to_turn (pool_at ws (at + j)) (pool_at ws (to + j)) (list_at ws (at + j + 1) k) (list_at ws (to + j + 1) k)
              ∙ ap₂ (λ (a b : ℕ). moved_to ws map (pool_at ws (at + j) ∷ []) (pool_at ws (to + j) ∷ []) ++ moved_to ws map (list_at ws a k) (list_at ws b k))
              (add_assoc at j 1) (add_assoc to j 1);
          ends = λ (j : ℕ). refl;
        }

  -- arguments and parameters go in pairs, as many as the shorter list has
  pub sources_paired : (at n to m : ℕ)
      → read_sources ws map (list_at ws at n) (list_at ws to m) ≡ read_sources ws map (list_at ws at (min n m)) (list_at ws to (min n m))
  unfolding list_at
  sources_paired at zero to m = rw (zero-min m)
  sources_paired at (suc n) to zero = rw (min-zero (suc n))
  sources_paired at (suc n) to (suc m) =
      rw (suc-min-suc n m)
      (ap (λ (l : List ℕ). pick (unread ws (pool_at ws to)) l (place_at map (pool_at ws at) ∷ l)) (sources_paired (at + 1) n (to + 1) m))

  pub destinations_paired : (at n to m : ℕ)
      → read_destinations ws map (list_at ws at n) (list_at ws to m) ≡ read_destinations ws map (list_at ws at (min n m)) (list_at ws to (min n m))
  unfolding list_at
  destinations_paired at zero to m = rw (zero-min m)
  destinations_paired at (suc n) to zero = rw (min-zero (suc n))
  destinations_paired at (suc n) to (suc m) =
      rw (suc-min-suc n m)
      (ap (λ (l : List ℕ). pick (unread ws (pool_at ws to)) l (place_at map (pool_at ws to) ∷ l)) (destinations_paired (at + 1) n (to + 1) m))

  -- Is one of n arguments moved? The pairs from j on answer for all of them.
  module _ (at to n : ℕ) where
    abbrev pub some_from : ℕ → Bool
    some_from j = ltb 0 (length (moved_from ws map (list_at ws (at + j) (n - j)) (list_at ws (to + j) (n - j))))

    abbrev pub some_of : Bool
    some_of = ltb 0 (length (moved_from ws map (list_at ws at n) (list_at ws to n)))

    abbrev pub some_at : ℕ → Bool
    some_at j = ltb 0 (length (moved_from ws map (pool_at ws (at + j) ∷ []) (pool_at ws (to + j) ∷ [])))

    some_turn : (j : ℕ) → j < n → some_from j ≡ pick (some_at j) true (some_from (j + 1))
    some_turn j h = ap (λ (l : List ℕ). ltb 0 (length l)) (counted-turn (from-counted at to) n j h)
        ∙ some_of_lem (moved_from ws map (pool_at ws (at + j) ∷ []) (pool_at ws (to + j) ∷ []))
        (moved_from ws map (list_at ws (at + (j + 1)) (n - (j + 1))) (list_at ws (to + (j + 1)) (n - (j + 1))))

    pub some-here : (j : ℕ) → j < n → some_at j ≡ true → some_from j ≡ some_of → true ≡ some_of
    some-here j h e i = sym (some_turn j h ∙ ap (λ (t : Bool). pick t true (some_from (j + 1))) e) ∙ i

    pub some-later : (j : ℕ) → j < n → some_at j ≡ false → some_from j ≡ some_of → some_from (j + 1) ≡ some_of
    some-later j h e i = sym (some_turn j h ∙ ap (λ (t : Bool). pick t true (some_from (j + 1))) e) ∙ i

    pub some_none : (j : ℕ) → n ≤ j → some_from j ≡ some_of → false ≡ some_of
    some_none j h i = sym (ap (λ (l : List ℕ). ltb 0 (length l)) (counted-end (from-counted at to) n j h)) ∙ i

  -- the moves of an edge
  module _ (e at to n : ℕ) (ea : at ≡ arguments_at ws e) (et : to ≡ params_at ws (edge_target ws e))
      (en : n ≡ min (argument_count ws e) (param_count ws (edge_target ws e))) where
    pub edge-from : moved_from ws map (list_at ws at n) (list_at ws to n) ≡ differing_sources (edge_sources ws map e) (edge_destinations ws map e)
    unfolding edge_sources edge_destinations
    edge-from = rw (ea, et, en) (sym (ap₂ differing_sources (sources_paired _ _ _ _) (destinations_paired _ _ _ _)))

    pub edge_to : moved_to ws map (list_at ws at n) (list_at ws to n) ≡ differing_destinations (edge_sources ws map e) (edge_destinations ws map e)
    unfolding edge_sources edge_destinations
    edge_to = rw (ea, et, en) (sym (ap₂ differing_destinations (sources_paired _ _ _ _) (destinations_paired _ _ _ _)))

    pub edge-some : some_of at to n ≡ has_moves ws map e
    unfolding has_moves
    edge-some = ap (λ (l : List ℕ). ltb 0 (length l)) edge-from
