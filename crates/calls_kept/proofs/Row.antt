-- The row of a call: the result's place, the registers noted, and the values in use at the row.
use Prim.Native.Nat.{ℕ, suc, ◌+◌, ◌-◌, ◌<◌, ◌≤◌}
use mathlib.Core.Bool.{true}
use mathlib.Core.List.Memᴰ
use mathlib.Core.List.{List, [], ◌∷◌, ◌++◌, append_assoc}
use mathlib.Core.Logic.{⊎_elim}
use mathlib.Core.Path.{◌≡◌, refl, sym, ap, ◌∙◌, subst}
use native.Mathlib.Omega.{arith}
use lib.ListN.{length, get_or, take, drop}
use Rattle.base.specs.Masks.{has_bit}
use Rattle.base.proofs.Masks.{has_none}
use Rattle.base.proofs.Numbers.{lt?}
use Rattle.place.specs.declared.Reg.TheVariants.{Gpr}
use Rattle.place.specs.declared.Place.TheVariants.{Register}
use Rattle.alloc.specs.State.{live}
use Rattle.alloc.specs.Allocation.{kept_of}
use Rattle.alloc.specs.Good.{occurs}
use Rattle.alloc.proofs.Counts.{occurs-kept}
use Rattle.input.specs.Layout.{values}
use Rattle.input.specs.Records.{destination}
use Rattle.rows.specs.Rows.{Row, instr, rows_of, over_rows, Ref, ref, refs, defined_by, row_defs, defs_of, row_in, InUse}
use Rattle.fit.specs.Intervals.{once, once_ok}
use Rattle.assign.specs.Steps.{places, is_call, row_steps}
use Rattle.assign.specs.Walk.{Walk, step, run, note_step, place_step, pool_of, begin, assigned, place_word, slots_made, slots_ok}
use Rattle.sharing.specs.Sharing.{Given, Held, RowIs}
use Rattle.sharing.proofs.Defined.{never, Did, Not, did_at, once_cross, one_value}
use Rattle.sharing.proofs.Placing.{word, Has, sits, word-sits}
use Rattle.sharing.proofs.Safe.{Safe, later, one_more, housed_more}
use Rattle.sharing.proofs.Runs.{note_quiet, unmoved, rows_go}
use Rattle.sharing.proofs.Order.{rows_before, rows-after}
use Rattle.sharing.proofs.Whole.{held, whole_safe, has-place}
use Rattle.sharing.proofs.Noted.{live-only}
use Rattle.sharing.proofs.Calls.{call-run, split, once_all, safe_here, all_run, keeps, noted_is, before_did, there, number, value_there}
use Rattle.calls_kept.proofs.Made.{run_made}
use Rattle.calls_kept.proofs.Fresh.{fresh_change, fresh_alone, fresh_housed}

-- what the row defines
row_defs_lem : (ws : List ℕ) (r i v : ℕ) → destination ws i ≡ suc v → row_defs ws r (instr i) ≡ ref r v ∷ []
unfolding row_defs refs
row_defs_lem ws r i v e = rw e

rows_defs : (ws : List ℕ) (r i v : ℕ) (ys : List Row) → destination ws i ≡ suc v
    → over_rows (row_defs ws) r (instr i ∷ ys) ≡ ref r v ∷ over_rows (row_defs ws) (r + 1) ys
unfolding over_rows
rows_defs ws r i v ys e = ap (λ (ds : List Ref). ds ++ over_rows (row_defs ws) (r + 1) ys) (row_defs_lem ws r i v e)

-- its value is placed
place-run : (ws pool : List ℕ) (r i v : ℕ) (w : Walk) → destination ws i ≡ suc v → run ws pool (places r (defined_by ws i)) w ≡ place_step ws pool r v w
unfolding places run step
place-run ws pool r i v w e = rw e

module _ (n : ℕ) (ws : List ℕ) (o : once_ok ws ≡ true) (all : slots_ok n ws ≡ true) (xs : List Row) (i v : ℕ) (ys : List Row)
    (at : rows_of ws ≡ xs ++ instr i ∷ ys) (c : is_call ws i ≡ true) (dst : destination ws i ≡ suc v) (low : v < values ws) where
  abbrev pool : List ℕ
  pool = pool_of (n - 2)

  abbrev row : ℕ
  row = 0 + length xs

  abbrev done : List Ref
  done = over_rows (row_defs ws) 0 xs

  abbrev rest : List Ref
  rest = over_rows (row_defs ws) (row + 1) ys

  -- the walk before the row, behind its note, and behind the row
  abbrev here : Walk
  here = run ws pool (over_rows (row_steps ws) 0 xs) (begin n ws)

  abbrev noted : Walk
  noted = note_step row v here

  abbrev behind : Walk
  behind = place_step ws pool row v noted

  safe : Safe n ws row done here
  safe = safe_here n ws o all xs i v ys at c dst low

  once-here : once (done ++ ref row v ∷ rest) ≡ true
  once-here = rw (rows_defs ws row i v ys dst) at (once_all n ws o all xs i v ys at c dst low)

  defs : defs_of ws ≡ done ++ ref row v ∷ rest
  defs = split n ws o all xs i v ys at c dst low ∙ ap (λ (ds : List Ref). done ++ ds) (rows_defs ws row i v ys dst)

  new : Not v done
  new q d = once_cross done (ref row v ∷ rest) once-here q row v d (Memᴰ.head refl)

  safe_noted : Safe n ws row done noted
  safe_noted = unmoved n ws row done here noted safe (note_quiet n ws row v here)

  safe_behind : Safe n ws (row + 1) (done ++ ref row v ∷ []) behind
  safe_behind =
      later n ws row (row + 1) (done ++ ref row v ∷ []) behind (omega arith)
      (one_more n ws done noted behind row v safe_noted new (fresh_change n ws row v done noted safe_noted new))

  rest-run : assigned n ws ≡ run ws pool (over_rows (row_steps ws) (row + 1) ys) behind
  rest-run =
      all_run n ws o all xs i v ys at c dst low ∙ call-run ws pool row i v ys here c dst
      ∙ ap (run ws pool (over_rows (row_steps ws) (row + 1) ys)) (place-run ws pool row i v noted dst)

  result-stays : place_word n ws v ≡ word behind v
  result-stays =
      ap (λ (w : Walk). word w v) rest-run
      ∙ (rows_go n ws (row + 1) ys (done ++ ref row v ∷ []) behind safe_behind (rw append_assoc once-here)).stays row v
      (Memᴰ.append_right done (Memᴰ.head refl))

  result_did : Did row v (defs_of ws)
  result_did = subst (Did row v) (sym defs) (Memᴰ.append_right done (Memᴰ.head refl))

  result-has : Has behind v
  result-has z = has-place n ws o all row v result_did (result-stays ∙ z)

  made : behind.alloc.made ≤ slots_made n ws
  made = omega (arith, run_made ws pool (over_rows (row_steps ws) (row + 1) ys) behind, ap (λ (w : Walk). w.alloc.made) rest-run)

  -- the result has a place, whether it is read or not
  held-result : Held n ws (place_word n ws v)
  held-result =
      held n ws (place_word n ws v) (whole_safe n ws o).good.capped
      (rw result-stays
      (housed_more n behind.alloc.made (slots_made n ws) (word behind v) made (fresh_housed n ws row v done noted safe_noted new result-has)))

  -- no entry that lasts past the row has the result's place
  alone : occurs (sits (place_word n ws v)) (kept_of row (live here.alloc)) ≡ 0
  unfolding note_step
  alone = rw result-stays (fresh_alone n ws row v done noted safe_noted new result-has)

  -- a register that is noted is in an entry that lasts
  lasts : (k : ℕ) → has_bit (get_or (assigned n ws).noted v 0) k ≡ true → 0 < occurs (Register (Gpr k)) (kept_of row (live here.alloc))
  lasts k h =
      ⊎_elim (λ e. absurd (never (sym e ∙ has_none k))) (λ q. q)
      (live-only k row (live here.alloc) 0 (rw (noted_is n ws o all xs i v ys at c dst low) at h))

  noted_low : (k : ℕ) → has_bit (get_or (assigned n ws).noted v 0) k ≡ true → k < n - 2
  noted_low k h = safe.pooled (Gpr k) (omega (arith, lasts k h, occurs-kept (Register (Gpr k)) row (live here.alloc)))

  noted_other : n ≤ 64 → (k : ℕ) → has_bit (get_or (assigned n ws).noted v 0) k ≡ true → place_word n ws v ≡ 1 + k → ⊥
  noted_other most k h e =
      let f : sits (place_word n ws v) ≡ Register (Gpr k) = ap sits e ∙ word-sits (Register (Gpr k)) (omega (arith, noted_low k h)) in
      omega (arith, lasts k h, rw f at alone)

  -- a value in use that was defined before the row has another place than the result
  other_place : (u : ℕ) → InUse ws u row → row_in u (defs_of ws) < row → place_word n ws u ≡ place_word n ws v → ⊥
  other_place u used l e =
      let q : ℕ = row_in u (defs_of ws) in
      let d : Did q u done = before_did n ws o all xs i v ys at c dst low u used l in
      let f : word here u ≡ place_word n ws v = sym (keeps n ws o all xs i v ys at c dst low q u d) ∙ e in
      let h : 0 < occurs (sits (word here u)) (kept_of row (live here.alloc)) =
      safe.held q u d (λ z. has-place n ws o all row v result_did (sym f ∙ z)) row (omega arith) used.until in
      omega (arith, rw f at h, alone)

  -- what the row defines is the result alone
  row_value : (u : ℕ) → Did row u (defs_of ws) → u ≡ v
  row_value u d =
      ⊎_elim (λ k. absurd (omega (arith, rows_before ws row u 0 xs k)))
      (λ k.
      ⊎_elim (λ m. one_value row u row v m) (λ m. absurd (omega (arith, rows-after ws row u (row + 1) ys m)))
      (Memᴰ.append_cases (ref row v ∷ []) k))
      (Memᴰ.append_cases done (subst (Did row u) defs d))

  in-use-before : (u : ℕ) → InUse ws u row → (u ≡ v → ⊥) → row_in u (defs_of ws) < row
  in-use-before u used ne =
      ⊎_elim (λ (l : row_in u (defs_of ws) < row). l)
      (λ (l : row ≤ row_in u (defs_of ws)).
      let e : row_in u (defs_of ws) ≡ row = omega (arith, used.from) in
      absurd (ne (row_value u (subst (λ (q : ℕ). Did q u (defs_of ws)) e (did_at u (defs_of ws) used.is)))))
      (lt? (row_in u (defs_of ws)) row)

-- ---- the same, at the row's number
module _ (n : ℕ) (ws : List ℕ) (g : Given n ws) (i r : ℕ) (at : RowIs ws r (instr i)) (c : is_call ws i ≡ true) (v : ℕ) (dst : destination ws i ≡ suc v) where
  abbrev xs : List Row
  xs = take r (rows_of ws)

  abbrev ys : List Row
  ys = drop (suc r) (rows_of ws)

  low : v < values ws
  low = value_there n ws g i r at c v dst

  stands : rows_of ws ≡ xs ++ instr i ∷ ys
  stands = there n ws g i r at c

  is_row : 0 + length xs ≡ r
  is_row = number n ws g i r at c

  pub result-held : Held n ws (place_word n ws v)
  result-held = held-result n ws g.once g.places xs i v ys stands c dst low

  pub noted_in_pool : (k : ℕ) → has_bit (get_or (assigned n ws).noted v 0) k ≡ true → k < n - 2
  noted_in_pool = noted_low n ws g.once g.places xs i v ys stands c dst low

  pub noted-not-result : n ≤ 64 → (k : ℕ) → has_bit (get_or (assigned n ws).noted v 0) k ≡ true → place_word n ws v ≡ 1 + k → ⊥
  noted-not-result = noted_other n ws g.once g.places xs i v ys stands c dst low

  pub defined-before : (u : ℕ) → InUse ws u r → (u ≡ v → ⊥) → row_in u (defs_of ws) < r
  defined-before u used ne =
      subst (λ (q : ℕ). row_in u (defs_of ws) < q) is_row
      (in-use-before n ws g.once g.places xs i v ys stands c dst low u (subst (InUse ws u) (sym is_row) used) ne)

  pub in_use_apart : (u : ℕ) → InUse ws u r → (u ≡ v → ⊥) → place_word n ws u ≡ place_word n ws v → ⊥
  in_use_apart u used ne =
      other_place n ws g.once g.places xs i v ys stands c dst low u (subst (InUse ws u) (sym is_row) used)
      (subst (λ (q : ℕ). row_in u (defs_of ws) < q) (sym is_row) (defined-before u used ne))
