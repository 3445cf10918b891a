-- The registers noted at a call are those of the values defined before it that are in use at it. No later row writes them over, since none
-- defines the value that they are kept by.
use Prim.Native.Nat.{ℕ, suc, ◌+◌, ◌-◌, ◌<◌}
use mathlib.Core.Bool.{Bool, true}
use mathlib.Core.List.Memᴰ
use mathlib.Core.List.{List, [], ◌∷◌, ◌++◌, Memᴰ}
use mathlib.Core.Logic.{⊎_elim}
use mathlib.Core.Path.{◌≡◌, refl, sym, ap, ◌∙◌, subst}
use native.Mathlib.Omega.{arith}
use lib.Dec.{leb, ltb, eqb}
use lib.ListN.{length, get_or, take, drop, length-set, length-replicate}
use lib.Seq.{split_at, length-take-le, get_or-set_same, get_or-set_other}
use borrow.Author.Tests.{eqb-true, leb-true}
use Rattle.base.specs.Choice.{pick}
use Rattle.base.specs.Masks.{has_bit}
use Rattle.base.proofs.Masks.{has_none}
use Rattle.base.proofs.Numbers.{pick_case}
use Rattle.place.specs.declared.Reg.TheVariants.{Gpr}
use Rattle.place.specs.declared.Place.TheVariants.{Register}
use Rattle.alloc.specs.State.{live}
use Rattle.alloc.specs.Allocation.{kept_of, live_after}
use Rattle.alloc.specs.Good.{occurs}
use Rattle.alloc.proofs.Live.{live_covers}
use Rattle.input.specs.Layout.{values, blocks, instructions}
use Rattle.input.specs.Records.{is_live, instr_kind, destination, operands_at, operand_count, operands_of, call, sys}
use Rattle.input.specs.Forms.{both, instr_forms, instr_form, instr_ok}
use Rattle.input.proofs.Words.{words_instr, instr_says, has_some}
use Rattle.rows.specs.Rows.{Row, instr, rows_of, over_rows, every, Ref, refs, defined_by, row_defs, defs_of, row_in, InUse}
use Rattle.shape.specs.Shape.{list_in, instr_shape, row_shape, shape_ok}
use Rattle.fit.specs.Intervals.{once, once_ok}
use Rattle.assign.specs.Steps.{Step, note, notes, places, is_call, row_steps, steps_of}
use Rattle.assign.specs.Walk.{Walk, step, run, note_step, pool_of, begin, assigned, place_word, slots_ok}
use Rattle.sharing.specs.Sharing.{Given, RowIs, NotedFor}
use Rattle.sharing.proofs.Defined.{never, both_left, both_right, Did, did_defined, did_at, once-left, once_right, once_cross, once-row}
use Rattle.sharing.proofs.Placing.{word, sits, word-sits}
use Rattle.sharing.proofs.Safe.{Owner, Safe}
use Rattle.sharing.proofs.Runs.{run-append, begin_safe, rows_go}
use Rattle.sharing.proofs.Order.{over-append, every_at, rows_before, rows-after, rows_instr}
use Rattle.sharing.proofs.Whole.{has-place}
use Rattle.sharing.proofs.Noted.{places-keep, rows-keep, live-only}

-- ---- a call has a destination
call_form : (kind : ℕ) → pick (eqb kind call) true (eqb kind sys) ≡ true → instr_form kind 0 ≡ 1
unfolding instr_forms
call_form kind h =
    pick_case (λ (b : Bool). b ≡ true → instr_form kind 0 ≡ 1) (eqb kind call) true (eqb kind sys)
    (λ e _. let q : kind ≡ call = eqb-true kind call e in rw q refl)
    (λ e k. let q : kind ≡ sys = eqb-true kind sys k in rw q refl) h

has-destination : (ws : List ℕ) (i : ℕ) → instr_ok ws i ≡ true → is_call ws i ≡ true → 0 < destination ws i
has-destination ws i h c = has_some (destination ws i) (sym (call_form (instr_kind ws i) c) ∙ (instr_says ws i h).has)

rows_ok : (ws : List ℕ) → shape_ok ws ≡ true → every (row_shape ws) 0 (rows_of ws) ≡ true
unfolding shape_ok
rows_ok ws h =
    let all : Bool = every (row_shape ws) 0 (rows_of ws) in
    both_right (is_live ws 0) all (both_right (ltb 0 (blocks ws)) (both (is_live ws 0) all) h)

destination_there : (ws : List ℕ) (i v : ℕ) → instr_shape ws i ≡ true → destination ws i ≡ suc v → v < values ws
unfolding instr_shape
destination_there ws i v h d =
    let there : Bool = list_in ws (operands_at ws i) (operand_count ws i) (operands_of ws i) in
    let fits : Bool = leb (destination ws i) (values ws) in
    omega (arith, d, leb-true (destination ws i) (values ws) (both_left fits _ (both_right there (both fits _) h)))

-- ---- rows that define a value
row_did : (ws : List ℕ) (r i v : ℕ) → destination ws i ≡ suc v → Did r v (row_defs ws r (instr i))
unfolding row_defs refs
row_did ws r i v e = rw e (Memᴰ.head refl)

rows_did : (ws : List ℕ) (r i v : ℕ) (xs : List Row) → destination ws i ≡ suc v → Memᴰ (instr i) xs → (q : ℕ) × Did q v (over_rows (row_defs ws) r xs)
unfolding over_rows
rows_did ws r i v [] d m = absurd (Memᴰ.not-nil m)
rows_did ws r i v (x ∷ xs) d m =
    ⊎_elim
    (λ (e : instr i ≡ x).
    (r, Memᴰ.append_left (over_rows (row_defs ws) (r + 1) xs) (subst (λ (y : Row). Did r v (row_defs ws r y)) e (row_did ws r i v d))))
    (λ k. let q = rows_did ws (r + 1) i v xs d k in (q.0, Memᴰ.append_right (row_defs ws r x) q.1))
    (Memᴰ.cases_cons m)

-- a value that an instruction defines is defined by no later one
alone : (ws : List ℕ) (r i j v : ℕ) (ys : List Row) → destination ws i ≡ suc v → once (over_rows (row_defs ws) r (instr i ∷ ys)) ≡ true
    → Memᴰ (instr j) ys → destination ws j ≡ suc v → ⊥
unfolding over_rows
alone ws r i j v ys d o m d' =
    let q = rows_did ws (r + 1) j v ys d' m in
    once_cross (row_defs ws r (instr i)) (over_rows (row_defs ws) (r + 1) ys) o r q.0 v (row_did ws r i v d) q.1

-- ---- what is noted at a call
call-steps : (ws : List ℕ) (r i v : ℕ) (ys : List Row) → is_call ws i ≡ true → destination ws i ≡ suc v
    → over_rows (row_steps ws) r (instr i ∷ ys) ≡ note r v ∷ (places r (defined_by ws i) ++ over_rows (row_steps ws) (r + 1) ys)
unfolding over_rows row_steps notes
call-steps ws r i v ys c d = rw (c, d)

note-run : (ws pool : List ℕ) (r v : ℕ) (ss : List Step) (w : Walk) → run ws pool (note r v ∷ ss) w ≡ run ws pool ss (note_step r v w)
unfolding run step
note-run ws pool r v ss w = refl

pub call-run : (ws pool : List ℕ) (r i v : ℕ) (ys : List Row) (w : Walk) → is_call ws i ≡ true → destination ws i ≡ suc v
    → run ws pool (over_rows (row_steps ws) r (instr i ∷ ys)) w
    ≡ run ws pool (over_rows (row_steps ws) (r + 1) ys) (run ws pool (places r (defined_by ws i)) (note_step r v w))
call-run ws pool r i v ys w c d =
    ap (λ (ss : List Step). run ws pool ss w) (call-steps ws r i v ys c d) ∙ note-run ws pool r v _ w
    ∙ run-append ws pool (places r (defined_by ws i)) (over_rows (row_steps ws) (r + 1) ys) (note_step r v w)

note_at : (r v : ℕ) (w : Walk) → v < length w.noted → get_or (note_step r v w).noted v 0 ≡ live_after 0 r (live w.alloc) 0
unfolding note_step
note_at r v w l = get_or-set_same w.noted v (live_after 0 r (live w.alloc) 0) 0 l

call-noted : (ws pool : List ℕ) (r i v : ℕ) (ys : List Row) (w : Walk) → is_call ws i ≡ true → destination ws i ≡ suc v → v < length w.noted
    → ((j : ℕ) → Memᴰ (instr j) ys → destination ws j ≡ suc v → ⊥)
    → get_or (run ws pool (over_rows (row_steps ws) r (instr i ∷ ys)) w).noted v 0 ≡ live_after 0 r (live w.alloc) 0
call-noted ws pool r i v ys w c d l last =
    let P : List ℕ → Type 0 = λ (m : List ℕ). get_or m v 0 ≡ live_after 0 r (live w.alloc) 0 in
    rw (call-run ws pool r i v ys w c d)
    (rows-keep ws pool P (λ (u : ℕ). v ≡ u → ⊥) (λ m u x ne e. get_or-set_other m u v x 0 ne ∙ e) (r + 1) ys _
    (λ j u m d' e. last j m (d' ∙ ap suc (sym e)))
    (places-keep ws pool P r (defined_by ws i) (note_step r v w) (note_at r v w l)))

begin-noted : (n : ℕ) (ws : List ℕ) → length (begin n ws).noted ≡ values ws
unfolding begin
begin-noted n ws = length-replicate {A = ℕ} (values ws) 0

rows-noted : (ws pool : List ℕ) (r : ℕ) (xs : List Row) (w : Walk) (k : ℕ) → length w.noted ≡ k → length (run ws pool (over_rows (row_steps ws) r xs) w).noted ≡ k
rows-noted ws pool r xs w k e =
    rows-keep ws pool (λ (m : List ℕ). length m ≡ k) (λ (j : ℕ). Unit) (λ m j x _ q. simp length-set q) r xs w (λ j v m d. tt) e

module _ (n : ℕ) (ws : List ℕ) (o : once_ok ws ≡ true) (all : slots_ok n ws ≡ true) (xs : List Row) (i v : ℕ) (ys : List Row)
    (at : rows_of ws ≡ xs ++ instr i ∷ ys) (c : is_call ws i ≡ true) (dst : destination ws i ≡ suc v) (low : v < values ws) where
  abbrev pool : List ℕ
  pool = pool_of (n - 2)

  abbrev row : ℕ
  row = 0 + length xs

  abbrev done : List Ref
  done = over_rows (row_defs ws) 0 xs

  abbrev rest : List Ref
  rest = over_rows (row_defs ws) row (instr i ∷ ys)

  -- the walk just before the row
  abbrev here : Walk
  here = run ws pool (over_rows (row_steps ws) 0 xs) (begin n ws)

  pub split : defs_of ws ≡ done ++ rest
  split = ap (over_rows (row_defs ws) 0) at ∙ over-append (row_defs ws) 0 xs (instr i ∷ ys)

  pub once_all : once (done ++ rest) ≡ true
  once_all = subst (λ (l : List Ref). once l ≡ true) split o

  pub safe_here : Safe n ws row done here
  safe_here = (rows_go n ws 0 xs [] (begin n ws) (begin_safe n ws) (once-left done rest once_all)).safe

  steps-split : steps_of ws ≡ over_rows (row_steps ws) 0 xs ++ over_rows (row_steps ws) row (instr i ∷ ys)
  steps-split = ap (over_rows (row_steps ws) 0) at ∙ over-append (row_steps ws) 0 xs (instr i ∷ ys)

  pub all_run : assigned n ws ≡ run ws pool (over_rows (row_steps ws) row (instr i ∷ ys)) here
  unfolding assigned
  all_run = ap (λ (ss : List Step). run ws pool ss (begin n ws)) steps-split ∙ run-append ws pool (over_rows (row_steps ws) 0 xs) _ (begin n ws)

  pub keeps : (q u : ℕ) → Did q u done → place_word n ws u ≡ word here u
  keeps q u d = ap (λ (w : Walk). word w u) all_run ∙ (rows_go n ws row (instr i ∷ ys) done here safe_here once_all).stays q u d

  pub noted_is : get_or (assigned n ws).noted v 0 ≡ live_after 0 row (live here.alloc) 0
  noted_is =
      let len : length here.noted ≡ values ws = rows-noted ws pool 0 xs (begin n ws) (values ws) (begin-noted n ws) in
      ap (λ (w : Walk). get_or w.noted v 0) all_run
      ∙ call-noted ws pool row i v ys here c dst (omega arith) (λ j. alone ws row i j v ys dst (once_right done rest once_all))

  all_did : (q u : ℕ) → Did q u done → Did q u (defs_of ws)
  all_did q u d = subst (Did q u) (sym split) (Memᴰ.append_left rest d)

  owned : (k : ℕ) → Owner ws done here row (Register (Gpr k)) → NotedFor n ws row k
  owned k w =
      let d : Did w.row w.value (defs_of ws) = all_did w.row w.value w.did in
      let e : row_in w.value (defs_of ws) ≡ w.row = once-row w.row w.value (defs_of ws) o d in
      let l : w.row < row = rows_before ws w.row w.value 0 xs w.did in
      let s : place_word n ws w.value ≡ word here w.value = keeps w.row w.value w.did in
      record {
        value = w.value;
        in_use = record { is = did_defined w.row w.value (defs_of ws) d; from = omega arith; until = w.until };
        before = omega arith;
        there = s ∙ w.there (λ z. has-place n ws o all w.row w.value d (s ∙ z));
      }

  pub noted-only : (k : ℕ) → has_bit (get_or (assigned n ws).noted v 0) k ≡ true → NotedFor n ws row k
  noted-only k h =
      ⊎_elim (λ e. absurd (never (sym e ∙ has_none k)))
      (λ q. owned k (safe_here.owner row (omega arith) (Register (Gpr k)) q))
      (live-only k row (live here.alloc) 0 (rw noted_is at h))

  pub before_did : (u : ℕ) → InUse ws u row → row_in u (defs_of ws) < row → Did (row_in u (defs_of ws)) u done
  before_did u used l =
      ⊎_elim (λ d. d) (λ d. absurd (omega (arith, rows-after ws (row_in u (defs_of ws)) u row (instr i ∷ ys) d)))
      (Memᴰ.append_cases done (subst (Did (row_in u (defs_of ws)) u) split (did_at u (defs_of ws) used.is)))

  pub noted_all : (k : ℕ) → k < 64 → NotedFor n ws row k → has_bit (get_or (assigned n ws).noted v 0) k ≡ true
  noted_all k l f =
      let u : ℕ = f.value in
      let q : ℕ = row_in u (defs_of ws) in
      let d : Did q u done = before_did u f.in_use f.before in
      let e : word here u ≡ 1 + k = sym (keeps q u d) ∙ f.there in
      let h : 0 < occurs (sits (word here u)) (kept_of row (live here.alloc)) =
      safe_here.held q u d (λ z. omega arith) row (omega arith) f.in_use.until in
      let h' : 0 < occurs (Register (Gpr k)) (kept_of row (live here.alloc)) = rw (e, word-sits (Register (Gpr k)) (omega arith)) at h in
      rw noted_is (live_covers (Gpr k) row l (live here.alloc) 0 h')

-- ---- the same, at the row's number
module _ (n : ℕ) (ws : List ℕ) (g : Given n ws) (i r : ℕ) (at : RowIs ws r (instr i)) (c : is_call ws i ≡ true) where
  abbrev before : List Row
  before = take r (rows_of ws)

  abbrev after : List Row
  after = drop (suc r) (rows_of ws)

  pub there : rows_of ws ≡ before ++ instr i ∷ after
  there = split_at (rows_of ws) r (instr i) at.within ∙ ap (λ (x : Row). before ++ x ∷ after) at.is

  pub number : 0 + length before ≡ r
  number = omega (arith, length-take-le r (rows_of ws) (omega (arith, at.within)))

  -- the row's instruction is there, so it has a destination
  pub call_destined : 0 < destination ws i
  call_destined =
      let low : i < instructions ws =
      rows_instr ws 0 0 (blocks ws) i (rows_ok ws g.shape)
      (subst (Memᴰ (instr i)) (sym there) (Memᴰ.append_right before (Memᴰ.head refl))) in
      has-destination ws i (words_instr ws g.words i low) c

  module _ (v : ℕ) (dst : destination ws i ≡ suc v) where
    pub value_there : v < values ws
    value_there =
        destination_there ws i v
        (every_at (row_shape ws) 0 before (instr i) after (subst (λ (rs : List Row). every (row_shape ws) 0 rs ≡ true) there (rows_ok ws g.shape)))
        dst

    pub call-noted-only : (k : ℕ) → has_bit (get_or (assigned n ws).noted v 0) k ≡ true → NotedFor n ws r k
    call-noted-only k h =
        subst (λ (x : ℕ). NotedFor n ws x k) number
        (noted-only n ws g.once g.places before i v after there c dst value_there k h)

    pub call-noted_all : (k : ℕ) → k < 64 → NotedFor n ws r k → has_bit (get_or (assigned n ws).noted v 0) k ≡ true
    call-noted_all k l f =
        noted_all n ws g.once g.places before i v after there c dst value_there k l
        (subst (λ (x : ℕ). NotedFor n ws x k) (sym number) f)
