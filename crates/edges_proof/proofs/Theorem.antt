-- The moves of every edge are right, on every machine with 22 to 64 registers.
use mathlib.Core.Path.{◌≡◌, refl, sym, ap, ◌∙◌}
use Prim.Native.Nat.{ℕ, ◌≤◌, ◌<◌}
use mathlib.Core.List.{List}
use mathlib.Core.Bool.{false}
use native.Mathlib.Omega.{arith}
use borrow.Author.Tests.{eqb-false}
use lib.ListN.{length, get_or}
use Rattle.base.specs.Emission.{Out, emit_all}
use Rattle.machine.specs.Machine.{State, World, run_words, holds}
use Rattle.moves.specs.AtOnce.{MovedAtOnce}
use Rattle.moves.proofs.Checked.{Checked}
use Rattle.input.specs.Records.{params_of, arguments_of, edge_target, start_of, end_of}
use Rattle.fit.specs.Intervals.{unread}
use Rattle.assign.specs.Walk.{assigned, place_word, slots_made}
use Rattle.sharing.specs.Sharing.{Given, Held, NoSharing}
use Rattle.sharing.proofs.Theorem.{sharing}
use Rattle.sharing.proofs.Whole.{whole_safe}
use Rattle.sharing.proofs.Parameters.{block_param_fits}
use Rattle.ready.specs.Ready.{Live, EdgeOf}
use Rattle.lower.specs.Operands.{place_at}
use Rattle.edges.specs.Pairs.{move_pairs}
use Rattle.edges.specs.Edges.{read_destinations, edge_sources, edge_destinations, jump_to, edge}
use Rattle.pairs_proof.proofs.Pairs.{checked_moves, pairs_at_once}
use Rattle.edges_proof.specs.EdgesRight.{edge_words, parameter, argument, EdgeMoved, EdgesTheorem}
use Rattle.edges_proof.proofs.Columns.{columns_long, column_pair, Stands, pair_column, columns-once}
use Rattle.edges_proof.proofs.Uses.{target_live, as_many, argument_in_use}
use Rattle.edges_proof.proofs.Placed.{held_ok, held_same}

edge_emits : (n : ℕ) (ws map : List ℕ) (next e : ℕ) (o : Out) → edge n ws map next e o ≡ jump_to next (edge_target ws e) (emit_all (edge_words n ws map e) o)
unfolding edge move_pairs edge_words
edge_emits n ws map next e o = refl

module _ (n : ℕ) (lo : 22 ≤ n) (hi : n ≤ 64) (ws : List ℕ) (g : Given n ws) (b e : ℕ) (o : EdgeOf ws b e) where
  abbrev map : List ℕ
  map = (assigned n ws).map

  abbrev xs : List ℕ
  xs = arguments_of ws e

  abbrev ps : List ℕ
  ps = params_of ws (edge_target ws e)

  abbrev Read : ℕ → Type 0
  Read i = unread ws (get_or ps i 0) ≡ false

  places : NoSharing n ws
  places = sharing n lo hi ws g

  target : Live ws (edge_target ws e)
  target = target_live ws b e o g.shape

  long : length xs ≡ length ps
  long = as_many ws b e o g.shape

  -- a read parameter lasts
  lasts : (i : ℕ) → i < length ps → Read i → start_of ws (get_or ps i 0) < end_of ws (get_or ps i 0)
  lasts i h u =
      let f = block_param_fits ws g.once g.intervals (edge_target ws e) i target.there target.is h in
      omega (arith, f.1.ordered, eqb-false (start_of ws (get_or ps i 0)) (end_of ws (get_or ps i 0)) u)

  parameter-held : (i : ℕ) → i < length ps → Read i → Held n ws (place_word n ws (get_or ps i 0))
  parameter-held i h u =
      let f = block_param_fits ws g.once g.intervals (edge_target ws e) i target.there target.is h in
      places.placed (get_or ps i 0) f.0 (f.1.in_use (lasts i h u))

  argument-held : (i : ℕ) → i < length xs → i < length ps → Read i → Held n ws (place_word n ws (get_or xs i 0))
  argument-held i h k u =
      let f = argument_in_use ws b e o g.intervals i h k u in
      places.placed (get_or xs i 0) f.0 f.1

  apart : (i j : ℕ) → i < length ps → j < length ps → Read i → Read j → place_at map (get_or ps i 0) ≡ place_at map (get_or ps j 0) → i ≡ j
  apart i j h k u v q =
      places.parameters (edge_target ws e) i j target.there target.is h k (lasts i h u) (lasts j k v)
      (held_same n ws (place_word n ws (get_or ps i 0)) (place_word n ws (get_or ps j 0)) (parameter-held i h u) (parameter-held j k v) q)

  columns_checked : Checked n (slots_made n ws) (edge_sources ws map e) (edge_destinations ws map e)
  unfolding edge_sources edge_destinations
  columns_checked =
      record {
        sources = λ k q.
            let h : k < length (read_destinations ws map xs ps) = (rw columns_long at q) in
            let p = column_pair ws map xs ps k h in
            rw p.1.source (held_ok n ws (place_word n ws (get_or xs p.0 0)) hi (argument-held p.0 p.1.argument p.1.parameter p.1.read));
        destinations = λ k h.
            let p = column_pair ws map xs ps k h in
            rw p.1.destination (held_ok n ws (place_word n ws (get_or ps p.0 0)) hi (parameter-held p.0 p.1.parameter p.1.read));
        once = columns-once ws map xs ps apart;
      }

  columns-same : length (edge_sources ws map e) ≡ length (edge_destinations ws map e)
  unfolding edge_sources edge_destinations
  columns-same = columns_long ws map xs ps

  few : slots_made n ws ≤ 256
  few = omega (arith, (whole_safe n ws g.once).good.capped)

  stands : (i : ℕ) → i < length ps → Read i → Stands ws map (edge_sources ws map e) (edge_destinations ws map e) xs ps i
  unfolding edge_sources edge_destinations
  stands i h u = pair_column ws map xs ps i (rw long h) h u

  module _ (w : World) (st : State) (high : slots_made n ws ≤ length st.stack) where
    abbrev after : State
    after = run_words w (edge_words n ws map e) st

    moved : MovedAtOnce n (edge_sources ws map e) (edge_destinations ws map e) st after
    unfolding edge_words
    moved =
        pairs_at_once n lo hi w (slots_made n ws) (edge_sources ws map e) (edge_destinations ws map e) st columns-same
        (checked_moves n (slots_made n ws) (edge_sources ws map e) (edge_destinations ws map e) columns_checked) high few

    arrived : (i : ℕ) → i < length ps → Read i → holds after (place_at map (parameter ws e i)) ≡ holds st (place_at map (argument ws e i))
    arrived i h u =
        let s = stands i h u in
        ap (holds after) (sym s.destination) ∙ moved.arrived s.at s.within ∙ ap (holds st) s.source

    edge_moved : EdgeMoved n ws map e st after
    edge_moved =
        record {
          arrived = arrived;
          register_kept = moved.register_kept;
          slot_kept = moved.slot_kept;
          height_kept = moved.height_kept;
        }

pub edges_theorem : EdgesTheorem
edges_theorem n lo hi = record { emits = edge_emits n; right = λ ws g b e o w st high. edge_moved n lo hi ws g b e o w st high }
