-- What is noted for a value stays, and which registers it says.
use Prim.Native.Nat.{ℕ, zero, suc, ◌+◌, ◌<◌}
use mathlib.Core.Bool.{true}
use mathlib.Core.List.{List, [], ◌∷◌, Memᴰ}
use mathlib.Core.Logic.{◌⊎◌, inl, inr, ⊎_elim}
use mathlib.Core.Path.{◌≡◌, refl, sym, ◌∙◌}
use native.Mathlib.Omega.{arith}
use lib.Dec.{leb, ltb, eqb}
use lib.ListN.{set}
use borrow.Author.Tests.{ltb-true, lt-leb, eq-eqb}
use Rattle.base.specs.Masks.{has_bit}
use Rattle.base.proofs.Masks.{has-with_other}
use Rattle.base.proofs.Numbers.{pick-both, pick_case, same?}
use Rattle.place.specs.declared.Reg.TheVariants.{Gpr, Fpr}
use Rattle.place.specs.declared.Place.{Place}
use Rattle.place.specs.declared.Place.TheVariants.{Slot, Register}
use Rattle.alloc.specs.declared.Entry.{Entry}
use Rattle.alloc.specs.Allocation as alloc
use Rattle.alloc.specs.Allocation.{kept_of, is_free, live_after}
use Rattle.alloc.specs.Good.{same, occurs}
use Rattle.input.specs.Records.{destination, params_of, first_edge, edge_count, edge_target, arguments_of}
use Rattle.rows.specs.Rows.{Row, params, instr, term, over_rows, maybe, defined_by}
use Rattle.assign.specs.Steps.{Step, pins, places, notes, hints, edge_hints, edges_hints, is_call, row_steps}
use Rattle.assign.specs.Walk.{Walk, step, run, pin_step, place_step, note_step, hint_step}
use Rattle.sharing.proofs.Runs.{run-append}

-- ---- only notes write there: what each of them keeps, rows keep
module _ (ws pool : List ℕ) (P : List ℕ → Type 0) where
  pins-keep : (r k : ℕ) (vs : List ℕ) (w : Walk) → P w.noted → P (run ws pool (pins r k vs) w).noted
  unfolding pins run step pin_step place_step
  pins-keep r k [] w h = h
  pins-keep r k (v ∷ vs) w h =
      pins-keep r (k + 1) vs (pin_step ws pool r k v w)
      (pick-both (λ (u : Walk). P u.noted) (is_free (Gpr k) w.alloc) _ _ h h)

  pub places-keep : (r : ℕ) (vs : List ℕ) (w : Walk) → P w.noted → P (run ws pool (places r vs) w).noted
  unfolding places run step place_step
  places-keep r [] w h = h
  places-keep r (v ∷ vs) w h = places-keep r vs (place_step ws pool r v w) h

  hints-keep : (xs ps : List ℕ) (w : Walk) → P w.noted → P (run ws pool (hints xs ps) w).noted
  unfolding hints run step hint_step
  hints-keep [] ps w h = h
  hints-keep (a ∷ xs) [] w h = h
  hints-keep (a ∷ xs) (p ∷ ps) w h = hints-keep xs ps (hint_step a p w) h

  none_keep : (w : Walk) → P w.noted → P (run ws pool [] w).noted
  unfolding run
  none_keep w h = h

  edges-keep : (b e m : ℕ) (w : Walk) → P w.noted → P (run ws pool (edges_hints ws b e m) w).noted
  unfolding edges_hints edge_hints
  edges-keep b e zero w h = none_keep w h
  edges-keep b e (suc m) w h =
      rw run-append
      (edges-keep b (e + 1) m _
      (pick-both (λ (l : List Step). P (run ws pool l w).noted) (ltb b (edge_target ws e)) _ _
      (hints-keep (arguments_of ws e) (params_of ws (edge_target ws e)) w h) (none_keep w h)))

  module _ (Ok : ℕ → Type 0) (keep : (l : List ℕ) (j x : ℕ) → Ok j → P l → P (set l j x)) where
    notes-keep : (r d : ℕ) (w : Walk) → ((v : ℕ) → d ≡ suc v → Ok v) → P w.noted → P (run ws pool (notes r (maybe d)) w).noted
    unfolding run notes step note_step
    notes-keep r zero w o h = h
    notes-keep r (suc v) w o h = keep w.noted v _ (o v refl) h

    row_keep : (r : ℕ) (x : Row) (w : Walk) → ((j v : ℕ) → x ≡ instr j → destination ws j ≡ suc v → Ok v) → P w.noted
        → P (run ws pool (row_steps ws r x) w).noted
    unfolding row_steps
    row_keep r (params b) w o h =
        pick-both (λ (l : List Step). P (run ws pool l w).noted) (eqb b 0) _ _ (pins-keep r 0 (params_of ws b) w h) (places-keep r (params_of ws b) w h)
    row_keep r (instr i) w o h =
        rw run-append
        (places-keep r (defined_by ws i) _
        (pick-both (λ (l : List Step). P (run ws pool l w).noted) (is_call ws i) _ _
        (notes-keep r (destination ws i) w (λ v e. o i v refl e) h) (none_keep w h)))
    row_keep r (term b) w o h = edges-keep b (first_edge ws b) (edge_count ws b) w h

    pub rows-keep : (r : ℕ) (xs : List Row) (w : Walk) → ((j v : ℕ) → Memᴰ (instr j) xs → destination ws j ≡ suc v → Ok v) → P w.noted
        → P (run ws pool (over_rows (row_steps ws) r xs) w).noted
    unfolding over_rows
    rows-keep r [] w o h = none_keep w h
    rows-keep r (x ∷ xs) w o h =
        rw run-append
        (rows-keep (r + 1) xs _ (λ j v m. o j v (Memᴰ.tail m)) (row_keep r x w (λ j v e. o j v (Memᴰ.head (sym e))) h))

-- ---- a bit that is noted is that of a register whose entry lasts
notes-only : (k : ℕ) (p : Place) (m : ℕ) → has_bit (alloc.notes 0 p m) k ≡ true → (has_bit m k ≡ true) ⊎ (0 < same (Register (Gpr k)) p)
notes-only k (Slot j) m h = inl h
notes-only k (Register (Fpr r)) m h = inl h
notes-only k (Register (Gpr r)) m h =
    ⊎_elim (λ e. inr (rw (eq-eqb k r e) (omega arith))) (λ ne. inl (sym (has-with_other m r k ne) ∙ h)) (same? k r)

more-kept : (k row : ℕ) (e : Entry) (es : List Entry) → 0 < occurs (Register (Gpr k)) (kept_of row es) → 0 < occurs (Register (Gpr k)) (kept_of row (e ∷ es))
unfolding kept_of occurs
more-kept k row e es h =
    pick-both (λ (l : List Entry). 0 < occurs (Register (Gpr k)) l) (leb e.end row) (kept_of row es) (e ∷ kept_of row es) h (omega (arith, h))

this_kept : (k row : ℕ) (e : Entry) (es : List Entry) → row < e.end → 0 < same (Register (Gpr k)) e.place → 0 < occurs (Register (Gpr k)) (kept_of row (e ∷ es))
unfolding kept_of occurs
this_kept k row e es l h = rw (lt-leb e.end row l) (omega (arith, h))

pub live-only : (k row : ℕ) (es : List Entry) (m : ℕ) → has_bit (live_after 0 row es m) k ≡ true → (has_bit m k ≡ true) ⊎ (0 < occurs (Register (Gpr k)) (kept_of row es))
unfolding live_after
live-only k row [] m h = inl h
live-only k row (e ∷ es) m h =
    ⊎_elim
    (λ q.
    pick_case (λ (x : ℕ). has_bit x k ≡ true → (has_bit m k ≡ true) ⊎ (0 < occurs (Register (Gpr k)) (kept_of row (e ∷ es)))) (ltb row e.end) _ _
    (λ t b. ⊎_elim (λ i. inl i) (λ s. inr (this_kept k row e es (ltb-true row e.end t) s)) (notes-only k e.place m b))
    (λ t b. inl b) q)
    (λ q. inr (more-kept k row e es q)) (live-only k row es _ h)
