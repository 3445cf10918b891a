-- Demand 3 of what `compile` emits.
use Rattle.std.specs.Prelude.{Ok}
use mathlib.Core.Path.{◌≡◌, refl, sym, ap, ◌∙◌}
use mathlib.Core.Logic.{◌≢◌}
use Prim.Native.Nat.{ℕ, suc, ◌+◌, ◌*◌, ◌≤◌, ◌<◌}
use mathlib.Core.List.{List}
use native.Mathlib.Omega.{arith}
use lib.ListN.{length, get_or, take, length-replicate}
use lib.Seq.{length-take-le}
use Rattle.base.specs.Emission.{Out}
use Rattle.machine.specs.Machine.{State, World, run_words}
use Rattle.machine.specs.Calls.{Kind}
use Rattle.input.specs.Layout.{head_field, function_id, function_span, pool_from}
use Rattle.input.specs.Records.{first_instr, instr_count, destination}
use Rattle.judge.proofs.Verdicts.{AllPass, fit-given}
use Rattle.assign.specs.Walk.{assigned, place_word, slots_made, top_used}
use Rattle.sharing.specs.Sharing.{Given, Held, in_register, in_slot, NoSharing}
use Rattle.sharing.proofs.Theorem.{sharing}
use Rattle.ready.specs.Ready.{Live, InstrOf, EdgeOf, Ready}
use Rattle.ready.proofs.Given.{ready}
use Rattle.placing.proofs.Tried.{used_most}
use Rattle.body.specs.Body.{body_ops}
use Rattle.frame.specs.Frames.{saved_up_to, framed}
use Rattle.frame.specs.FramesKept.{FrameKept}
use Rattle.frame.proofs.Restoring.{frames_kept}
use Rattle.edges_proof.specs.EdgesRight.{edge_words, EdgeMoved}
use Rattle.edges_proof.proofs.Theorem.{edges_theorem}
use Rattle.calls_proof.proofs.Theorem.{calls_theorem}
use Rattle.calls_kept.specs.CallsKept.{Calls}
use Rattle.calls_kept.proofs.Theorem.{calls-kept}
use Rattle.layout.specs.Layout.{BlockAt, EntryAt, Built}
use Rattle.layout.proofs.Theorem.{layout, entry}
use Rattle.lists.specs.declared.Used.{Used}
use Rattle.assemble.specs.Assemble.{function_out}
use Rattle.assemble.proofs.Whole.{room_few}
use Rattle.first_checks.specs.Buffers.{Buffers}
use Rattle.compile.specs.Compile.{new_lists, new_targets, env_of, start_of, final_out, compiled}
use Rattle.demand3.specs.Demand3.{ops_of, slots_of, heads_of, lookups_of, places_left, saved_by, CallAt, Right, Words, Demand3}
use Rattle.demand3.proofs.Passed.{Passed, passed}
use Rattle.demand3.proofs.Left.{resolved_at, ops-left, places-left, slots_left, heads_long, heads_left, lookups_long, lookups_left, functions-left, entry-left, builtins_left}
use Rattle.demand3.proofs.CallAt.{call_at}
use Rattle.demand3.proofs.Tails.{tail_right}

-- the word of a place is not 0
held-some : (n : ℕ) (ws : List ℕ) (x : ℕ) → Held n ws x → x ≢ 0
held-some n ws x (in_register r h) e = omega arith
held-some n ws x (in_slot k h l) e = omega arith

module _ (n : ℕ) (lo : 22 ≤ n) (hi : n ≤ 64) (ws : List ℕ) (words : Words ws) (b : Buffers) (u : Used) (done : (compiled n ws b u).number ≡ 0) where
  p : Passed n ws b u
  p = passed n ws b u done

  all : AllPass n ws b.functions
  all = fit-given n ws b.functions (Ok tt) (sym p.fit) refl

  given : Given n ws
  given =
      record {
        words = all.words;
        counts = all.counts;
        shape = all.shape;
        once = all.once;
        intervals = all.intervals;
        places = p.slots;
      }

  pool_low : pool_from ws < 4294967296
  unfolding head_field
  pool_low = words 13

  is_ready : Ready ws
  is_ready = ready n hi ws b.functions pool_low p.fit

  -- ---- where the ops stand
  abbrev F : Out
  F = framed (saved_by n ws) (function_span ws) (body_ops n (env_of n ws b u) u.switches u.lookups) (start_of ws b u)

  final_is : final_out n ws b u ≡ F
  unfolding final_out function_out
  final_is = refl

  built : Built (saved_by n ws) (function_span ws) n (env_of n ws b u) u.switches u.lookups (start_of ws b u)
  built =
      record {
        registers_many = lo;
        registers_few = hi;
        words = all.words;
        shape = all.shape;
        ready = is_ready;
        labels_there = omega (arith, p.labels_room, length-replicate {A = ℕ} (length b.labels) 0);
        few = omega (arith, ap (λ (o : Out). length o.ops) final_is, p.ops_room, (room_few b.ops b.spans).0);
      }

  resolves : (t : ℕ) → u.targets ≤ t → t < length (new_lists n ws b u).targets
      → get_or (new_targets n ws b u) t 0 ≡ get_or F.labels (get_or (new_lists n ws b u).targets t 0) 0
  resolves t h k =
      resolved_at (final_out n ws b u).labels (new_lists n ws b u).targets u.targets t h k
      ∙ ap (λ (o : Out). get_or o.labels (get_or (new_lists n ws b u).targets t 0) 0) final_is

  block_of : (k : ℕ) → Live ws k → BlockAt n (env_of n ws b u) (saved_by n ws) (final_out n ws b u) (slots_of n ws b u) (heads_of n ws b u) (lookups_of n ws b u) k
  block_of k live =
      rw (final_is, slots_left n ws b u done, heads_left n ws b u done, lookups_left n ws b u done)
      (layout (saved_by n ws) (function_span ws) n (env_of n ws b u) u.switches u.lookups u.targets u.values (start_of ws b u) (take u.targets b.targets)
      (new_targets n ws b u) (take (3 * u.switches) b.switches) (new_lists n ws b u).switches (take (5 * u.lookups) b.lookups) (new_lists n ws b u).lookups built
      (length-take-le u.targets b.targets p.targets_used) resolves (heads_long n ws b u done) refl (lookups_long n ws b u done) refl k live)

  -- ---- the entry and the frame
  entry_at : EntryAt (saved_by n ws) (final_out n ws b u) u.ops
  entry_at =
      let long : length (start_of ws b u).ops ≡ u.ops = length-take-le u.ops b.ops p.ops_used in
      rw final_is (rw long at (entry (saved_by n ws) (function_span ws) n (env_of n ws b u) u.switches u.lookups (start_of ws b u) built))

  frame-kept : (w : World) (st : State) → FrameKept n (saved_up_to (function_id ws) (top_used n ws)) (slots_made n ws) (saved_by n ws) w st
  frame-kept w st =
      frames_kept n (function_id ws) (top_used n ws) (slots_made n ws) lo hi (used_most (get_or (assigned n ws).alloc.used 0 0) 64) w st

  -- ---- calls
  instr_of : (k j : ℕ) → Live ws k → j < instr_count ws k → InstrOf ws k (first_instr ws k + j)
  instr_of k j live h = record { block = live; from = omega arith; until = omega arith }

  call_of : (k j v : ℕ) (l : Live ws k) → j < instr_count ws k → destination ws (first_instr ws k + j) ≡ suc v → (kind : Kind)
      → Calls ws (first_instr ws k + j) kind
      → CallAt n ws b u (ops_of n ws b u) kind (first_instr ws k + j) v ((block_of k l).at j) ((block_of k l).at (j + 1))
  call_of k j v l h dst kind calls = rw (ops-left n ws b u done) (call_at (calls_theorem n lo hi) ws b u v ((block_of k l).instrs j h) dst kind calls)

  -- ---- places
  places : NoSharing n ws
  places = sharing n lo hi ws given

  edge_of : (k e : ℕ) → EdgeOf ws k e → (w : World) (st : State) → slots_made n ws ≤ length st.stack
      → EdgeMoved n ws (places_left n ws b u) e st (run_words w (edge_words n ws (places_left n ws b u) e) st)
  edge_of k e o w st high = rw (places-left n ws b u done) ((edges_theorem n lo hi).right ws given k e o w st high)

  right : Right n ws b u
  right =
      record {
        ops_are = ops-left n ws b u done;
        places_are = places-left n ws b u done;
        functions_are = functions-left n ws b u done;
        builtins_are = builtins_left n ws b u done;
        blocks = block_of;
        named = entry-left n ws b u done;
        entry = entry_at;
        frame = frame-kept;
        edges = edge_of;
        calls = call_of;
        kept = λ k j v r l h at dst kind calls w st st'' high keeps.
            calls-kept n lo hi ws given k (first_instr ws k + j) v r (instr_of k j l h) at dst kind calls w st st'' high keeps;
        tails = λ k l is w st high i h. rw (places-left n ws b u done) (tail_right ws k l n lo hi given is w st high i h);
        apart = λ v v' r x x' e. places.apart v v' r x x' (rw (places-left n ws b u done) at e);
        placed = λ v r x. rw (places-left n ws b u done) (held-some n ws (place_word n ws v) (places.placed v r x));
      }

pub demand_3 : Demand3
demand_3 n lo hi ws words b u done = right n lo hi ws words b u done
