-- The read parameters of a block have different places: they are in use at its first row, and none stands there twice.
use Prim.Native.Nat.{ℕ, ◌+◌, ◌<◌, ◌≤◌}
use mathlib.Core.Bool.{Bool, true, false}
use mathlib.Core.List.Memᴰ
use mathlib.Core.List.{List, [], ◌∷◌, ◌++◌}
use mathlib.Core.Logic.{⊎_elim}
use mathlib.Core.Path.{◌≡◌, refl, sym, ap, ◌∙◌, subst}
use native.Mathlib.Omega.{arith}
use lib.Dec.{leb, ltb}
use lib.ListN.{length, get_or}
use borrow.Author.Tests.{ltb-true, leb-true}
use Rattle.base.specs.Choice.{pick}
use Rattle.input.specs.Layout.{blocks}
use Rattle.input.specs.Records.{is_live, params_of, start_of, end_of}
use Rattle.input.specs.Forms.{both}
use Rattle.rows.specs.Rows.{Row, params, rows_of, over_rows, every, Ref, ref, refs, row_defs, defs_of, InUse}
use Rattle.fit.specs.Intervals.{once, once_ok, fit_def, fit_defs, fit_row, intervals_ok}
use Rattle.assign.specs.Walk.{place_word, slots_ok}
use Rattle.sharing.proofs.Defined.{both_left, both_right, Did, did_defined, once-left, once_right, once-row}
use Rattle.sharing.proofs.Order.{over-append, every_at, refs_did, refs_apart, At, params_at_lem}
use Rattle.sharing.proofs.Whole.{all_apart}

-- ---- a definition that fits, and is read, is in use at its row
fit-each : (ws : List ℕ) (ds : List Ref) (r v : ℕ) → fit_defs ws ds ≡ true → Did r v ds → fit_def ws (ref r v) ≡ true
unfolding fit_defs
fit-each ws [] r v e d = absurd (Memᴰ.not-nil d)
fit-each ws (x ∷ ds) r v e d =
    ⊎_elim (λ q. ap (fit_def ws) q ∙ both_left (fit_def ws x) (fit_defs ws ds) e)
    (λ k. fit-each ws ds r v (both_right (fit_def ws x) (fit_defs ws ds) e) k) (Memᴰ.cases_cons d)

read_case : (r s e : ℕ) (b : Bool) → ltb r e ≡ b → s < e → pick b (ltb s e) (leb e s) ≡ true → r < e
read_case r s e true q l h = ltb-true r e q
read_case r s e false q l h = absurd (omega (arith, leb-true e s h))

read_lasts : (ws : List ℕ) (r v : ℕ) → fit_def ws (ref r v) ≡ true → start_of ws v < end_of ws v → r < end_of ws v
unfolding fit_def
read_lasts ws r v h l =
    let s : ℕ = start_of ws v in
    let e : ℕ = end_of ws v in
    let last : Bool = pick (ltb r e) (ltb s e) (leb e s) in
    read_case r s e (ltb r e) refl l (both_right (leb s e) last (both_right (ltb s 4294967295) (both (leb s e) last) h))

fit_ordered : (ws : List ℕ) (r v : ℕ) → fit_def ws (ref r v) ≡ true → start_of ws v ≤ end_of ws v
unfolding fit_def
fit_ordered ws r v h =
    leb-true (start_of ws v) (end_of ws v) (both_left (leb (start_of ws v) (end_of ws v)) _ (both_right (ltb (start_of ws v) 4294967295) _ h))

params_defs : (ws : List ℕ) (r b : ℕ) (ys : List Row) → over_rows (row_defs ws) r (params b ∷ ys) ≡ refs r (params_of ws b) ++ over_rows (row_defs ws) (r + 1) ys
unfolding over_rows row_defs
params_defs ws r b ys = refl

params_fit : (ws : List ℕ) (ds : List Ref) (r b : ℕ) → fit_row ws ds r (params b) ≡ true → fit_defs ws (refs r (params_of ws b)) ≡ true
unfolding fit_row
params_fit ws ds r b h = h

-- what is known of a parameter, at row r: its start is at most its end, and if it is read it is in use there
pub record ParamFits (ws : List ℕ) (v r : ℕ) : Type 0 where
  pub ordered : start_of ws v ≤ end_of ws v
  pub in_use : start_of ws v < end_of ws v → InUse ws v r

-- ---- the parameters of block b, behind the rows xs
module _ (ws : List ℕ) (o : once_ok ws ≡ true) (fit : intervals_ok ws ≡ true) (b : ℕ) (xs ys : List Row) (at : rows_of ws ≡ xs ++ params b ∷ ys) where
  abbrev row : ℕ
  row = 0 + length xs

  abbrev vs : List ℕ
  vs = params_of ws b

  abbrev rest : List Ref
  rest = over_rows (row_defs ws) (row + 1) ys

  split : defs_of ws ≡ over_rows (row_defs ws) 0 xs ++ (refs row vs ++ rest)
  split =
      ap (over_rows (row_defs ws) 0) at ∙ over-append (row_defs ws) 0 xs (params b ∷ ys)
      ∙ ap (λ (l : List Ref). over_rows (row_defs ws) 0 xs ++ l) (params_defs ws row b ys)

  params_once : once (refs row vs) ≡ true
  params_once =
      once-left (refs row vs) rest
      (once_right (over_rows (row_defs ws) 0 xs) (refs row vs ++ rest) (subst (λ (l : List Ref). once l ≡ true) split o))

  param_fits : (i : ℕ) → i < length vs → ParamFits ws (get_or vs i 0) row
  param_fits i l =
      let v : ℕ = get_or vs i 0 in
      let here : Did row v (refs row vs) = refs_did row vs i l in
      let d : Did row v (defs_of ws) = subst (Did row v) (sym split) (Memᴰ.append_right (over_rows (row_defs ws) 0 xs) (Memᴰ.append_left rest here)) in
      let f : fit_defs ws (refs row vs) ≡ true =
      params_fit ws (defs_of ws) row b
      (every_at (fit_row ws (defs_of ws)) 0 xs (params b) ys (subst (λ (l : List Row). every (fit_row ws (defs_of ws)) 0 l ≡ true) at fit)) in
      let g : fit_def ws (ref row v) ≡ true = fit-each ws (refs row vs) row v f here in
      let e = once-row row v (defs_of ws) o d in
      record {
        ordered = fit_ordered ws row v g;
        in_use = λ read. record { is = did_defined row v (defs_of ws) d; from = omega (arith, e); until = read_lasts ws row v g read };
      }

  params_differ : (n : ℕ) → slots_ok n ws ≡ true → (i j : ℕ) → i < length vs → j < length vs → start_of ws (get_or vs i 0) < end_of ws (get_or vs i 0)
      → start_of ws (get_or vs j 0) < end_of ws (get_or vs j 0) → place_word n ws (get_or vs i 0) ≡ place_word n ws (get_or vs j 0) → i ≡ j
  params_differ n all i j l k read read' e =
      refs_apart row vs i j params_once l k
      (all_apart n ws o all (get_or vs i 0) (get_or vs j 0) row ((param_fits i l).in_use read) ((param_fits j k).in_use read') e)

pub params_apart : (n : ℕ) (ws : List ℕ) → once_ok ws ≡ true → intervals_ok ws ≡ true → slots_ok n ws ≡ true → (b i j : ℕ) → b < blocks ws → is_live ws b ≡ true
    → i < length (params_of ws b) → j < length (params_of ws b)
    → start_of ws (get_or (params_of ws b) i 0) < end_of ws (get_or (params_of ws b) i 0)
    → start_of ws (get_or (params_of ws b) j 0) < end_of ws (get_or (params_of ws b) j 0)
    → place_word n ws (get_or (params_of ws b) i 0) ≡ place_word n ws (get_or (params_of ws b) j 0) → i ≡ j
params_apart n ws o fit all b i j lb live =
    let a : At (rows_of ws) (params b) = params_at_lem ws 0 (blocks ws) b (omega arith) (omega arith) live in
    params_differ ws o fit b a.before a.after a.is n all i j

-- so it is with each parameter of a live block
pub block_param_fits : (ws : List ℕ) → once_ok ws ≡ true → intervals_ok ws ≡ true → (b i : ℕ) → b < blocks ws → is_live ws b ≡ true
    → i < length (params_of ws b) → (r : ℕ) × ParamFits ws (get_or (params_of ws b) i 0) r
block_param_fits ws o fit b i lb live l =
    let a : At (rows_of ws) (params b) = params_at_lem ws 0 (blocks ws) b (omega arith) (omega arith) live in
    (0 + length a.before, param_fits ws o fit b a.before a.after a.is i l)
