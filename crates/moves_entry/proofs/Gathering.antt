-- Laws of gathering: columns that hold the first i moves, and what is left to store.
use mathlib.Core.Path.{◌≡◌, refl, sym, ap, ◌∙◌}
use mathlib.Core.Logic.{⊎_elim}
use mathlib.Core.List.{List, [], ◌∷◌, map}
use Prim.Native.Nat.{ℕ, zero, suc, ◌≤◌, ◌<◌, min}
use native.Mathlib.Omega.{arith}
use lib.ListN.{length, get_or, drop, set, replicate, length-set, length-replicate, length-map, drop_of_length-le}
use lib.Seq.{sets, drop-cons}
use Rattle.base.proofs.Numbers.{lt?}
use Rattle.base.proofs.Lists.{sets-past}
use Rattle.place.specs.Places.{number_of}
use Rattle.moves_entry.specs.declared.Move.{Move}
use Rattle.moves_entry.specs.declared.Columns.{Columns}
use Rattle.base.specs.Limits.{most_moves}
use Rattle.moves_entry.specs.Entry.{sources_of, destinations_of}
use Rattle.moves_entry.specs.Gathering.{empty_columns, with_move, columns_of}

-- the sources are a map over the list
pub sources_map : (l : List Move) → sources_of l ≡ map (λ (m : Move). number_of m.src) l
unfolding sources_of
sources_map [] = refl
sources_map (m ∷ l) = ap (λ (ns : List ℕ). number_of m.src ∷ ns) (sources_map l)

-- the same of the destinations
pub destinations_map : (l : List Move) → destinations_of l ≡ map (λ (m : Move). number_of m.dst) l
unfolding destinations_of
destinations_map [] = refl
destinations_map (m ∷ l) = ap (λ (ns : List ℕ). number_of m.dst ∷ ns) (destinations_map l)

-- what stands at i of a column
column_at : (f : Move → ℕ) (l : List Move) (i : ℕ) (d : Move) → i < length l → get_or (map f l) i 0 ≡ f (get_or l i d)
column_at f [] i d h = absurd (omega arith)
column_at f (m ∷ l) zero d h = refl
column_at f (m ∷ l) (suc i) d h = column_at f l i d (omega arith)

-- as many sources as moves
pub length_sources : (l : List Move) → length (sources_of l) ≡ length l
length_sources l = ap length (sources_map l) ∙ simp length-map

-- the same of the destinations
pub length_destinations : (l : List Move) → length (destinations_of l) ≡ length l
length_destinations l = ap length (destinations_map l) ∙ simp length-map

-- the array a is on its way to the one that holds the column xs: what stands from i on is left to store
pub record Toward (xs : List ℕ) (i : ℕ) (a : List ℕ) : Type 0 where
  pub rest : sets a i (drop i xs) ≡ sets (replicate most_moves 0) 0 xs
  pub size : length a ≡ most_moves

-- one more is stored
toward_turn : (xs : List ℕ) (i : ℕ) (a : List ℕ) (x : ℕ) → i < length xs → get_or xs i 0 ≡ x → Toward xs i a → Toward xs (suc i) (set a i x)
toward_turn xs i a x h e t =
    record {
      rest =
          let f : sets a i (drop i xs) ≡ sets (set a i (get_or xs i 0)) (suc i) (drop (suc i) xs) = rw (drop-cons xs i 0 h) in
          sym (f ∙ ap (λ (y : ℕ). sets (set a i y) (suc i) (drop (suc i) xs)) e) ∙ t.rest;
      size = simp length-set t.size;
    }

-- all are stored, or there is no room for more
toward_end : (xs : List ℕ) (i : ℕ) (a : List ℕ) → min (length xs) most_moves ≤ i → Toward xs i a → a ≡ sets (replicate most_moves 0) 0 xs
toward_end xs i a h t =
    ⊎_elim
    (λ (k : i < length xs). sym (sets-past a i (drop i xs) (omega (arith, t.size))) ∙ t.rest)
    (λ (k : length xs ≤ i). let e : sets a i (drop i xs) ≡ a = rw (drop_of_length-le xs {i = i} k) in sym e ∙ t.rest)
    (lt? i (length xs))

-- the columns hold the first i of the list
pub record Gathered (l : List Move) (i : ℕ) (c : Columns) : Type 0 where
  pub sources : Toward (sources_of l) i c.src
  pub destinations : Toward (destinations_of l) i c.dst
  pub counted : c.count ≡ length l

-- before the first turn
pub gathered_start : (l : List Move) → Gathered l 0 (empty_columns (length l))
gathered_start l =
    record {
      sources = record { rest = refl; size = length-replicate {A = ℕ} most_moves 0 };
      destinations = record { rest = refl; size = length-replicate {A = ℕ} most_moves 0 };
      counted = refl;
    }

-- a turn takes one move
pub gathered_turn : (l : List Move) (i : ℕ) (c : Columns) (d : Move) → i < length l → Gathered l i c → Gathered l (suc i) (with_move c i (get_or l i d))
gathered_turn l i c d h g =
    record {
      sources =
          toward_turn (sources_of l) i c.src (number_of (get_or l i d).src) (rw (length_sources l) h) (rw (sources_map l) (column_at _ l i d h)) g.sources;
      destinations =
          toward_turn (destinations_of l) i c.dst (number_of (get_or l i d).dst) (rw (length_destinations l) h) (rw (destinations_map l) (column_at _ l i d h))
          g.destinations;
      counted = g.counted;
    }

-- where all are taken, or all that there is room for, the columns are the list's
pub gathered_end : (l : List Move) (i : ℕ) (c : Columns) → min (length l) most_moves ≤ i → Gathered l i c → c ≡ columns_of l
unfolding columns_of
gathered_end l i c h g =
    let s : c.src ≡ sets (replicate most_moves 0) 0 (sources_of l) =
    toward_end (sources_of l) i c.src (rw (length_sources l) h) g.sources in
    let d : c.dst ≡ sets (replicate most_moves 0) 0 (destinations_of l) =
    toward_end (destinations_of l) i c.dst (rw (length_destinations l) h) g.destinations in
    whole s d g.counted
  where
    whole : {s s' d d' : List ℕ} {n n' : ℕ} → s ≡ s' → d ≡ d' → n ≡ n'
        → ◌≡◌ {A = Columns} (record { src = s; dst = d; count = n }) (record { src = s'; dst = d'; count = n' })
    whole e f g = rw (e, f, g)
