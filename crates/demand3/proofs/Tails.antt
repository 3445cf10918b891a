-- What the checks say of a TailCall's arguments: they are at most n - 2, and each is in use at the row before.
use mathlib.Core.Path.{◌≡◌}
use Prim.Native.Nat.{ℕ, ◌+◌, ◌-◌, ◌≤◌, ◌<◌}
use mathlib.Core.List.{List}
use mathlib.Core.Bool.{true}
use native.Mathlib.Omega.{arith}
use lib.ListN.{length, get_or}
use Rattle.machine.specs.Machine.{State, World, run_words, holds}
use Rattle.input.specs.Records.{instr_count, first_edge, edge_count, term_kind, term_operands_at, term_operand_count, term_operands, tail_call}
use Rattle.input.proofs.Chain.{both-parts}
use Rattle.rows.specs.Rows.{Ref, refs, term, defs_of, InUse}
use Rattle.fit.specs.Intervals.{fit_uses, fit_edges, fit_row, intervals_ok}
use Rattle.assign.specs.Walk.{assigned, place_word, slots_made}
use Rattle.sharing.specs.Sharing.{Given}
use Rattle.sharing.proofs.Theorem.{sharing}
use Rattle.sharing.proofs.Whole.{whole_safe}
use Rattle.ready.specs.Ready.{Live}
use Rattle.ready.proofs.Passes.{block_passes}
use Rattle.ready.proofs.Counted.{counted}
use Rattle.lower.specs.Operands.{place_at}
use Rattle.calls_proof.specs.CallsRight.{shuffle_words}
use Rattle.calls_proof.proofs.Theorem.{calls_theorem}
use Rattle.edges_proof.proofs.Uses.{list_long, use_fits}
use Rattle.edges_proof.proofs.Placed.{held_ok}
use Rattle.calls_kept.proofs.Uses.{uses_fit}

term_fits : (ws : List ℕ) (ds : List Ref) (r b : ℕ) → fit_row ws ds r (term b) ≡ true → fit_uses ws ds (refs r (term_operands ws b)) ≡ true
unfolding fit_row
term_fits ws ds r b h = (both-parts (fit_uses ws ds (refs r (term_operands ws b))) (fit_edges ws ds r (first_edge ws b) (edge_count ws b)) h).0

module _ (ws : List ℕ) (b : ℕ) (live : Live ws b) where
  tail_in_use : intervals_ok ws ≡ true → (k : ℕ) → k < length (term_operands ws b) → (r : ℕ) × InUse ws (get_or (term_operands ws b) k 0) r
  tail_in_use fit k l =
      let p = block_passes (fit_row ws (defs_of ws)) ws fit b live in
      let r : ℕ = p.row + 1 + instr_count ws b in
      (r - 1, use_fits ws r _ (uses_fit ws (defs_of ws) r (term_operands ws b) (term_fits ws (defs_of ws) r b p.of_term) k l))

  module _ (n : ℕ) (lo : 22 ≤ n) (hi : n ≤ 64) (g : Given n ws) (is : term_kind ws b ≡ tail_call) where
    tail_few : length (term_operands ws b) ≤ n - 2
    tail_few =
        omega (arith, list_long ws (term_operands_at ws b) (term_operand_count ws b), ((counted n ws g.counts).of_block b live.there).arguments is)

    -- the argument registers get their arguments
    pub tail_right : (w : World) (st : State) → slots_made n ws ≤ length st.stack → (i : ℕ) → i < length (term_operands ws b)
        → (run_words w (shuffle_words n (assigned n ws).map 0 (term_operands ws b)) st).regs i ≡ holds st (place_at (assigned n ws).map (get_or (term_operands ws b) i 0))
    tail_right w st high =
        (calls_theorem n lo hi).tail_arrived (slots_made n ws) (assigned n ws).map (term_operands ws b) w st tail_few
        (λ k l.
        let u = tail_in_use g.intervals k l in
        held_ok n ws (place_word n ws (get_or (term_operands ws b) k 0)) hi ((sharing n lo hi ws g).placed (get_or (term_operands ws b) k 0) u.0 u.1))
        (whole_safe n ws g.once).good.capped high
