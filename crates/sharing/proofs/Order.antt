-- Rows and what they define, by where each stands.
use Prim.Native.Nat.{ℕ, zero, suc, ◌+◌, ◌<◌, ◌≤◌}
use mathlib.Core.Bool.{Bool, true}
use mathlib.Core.List.Memᴰ
use mathlib.Core.List.{List, [], ◌∷◌, ◌++◌, append_assoc, Memᴰ}
use mathlib.Core.Logic.{◌≢◌, ⊎_elim}
use mathlib.Core.Path.{◌≡◌, refl, sym, ap, ◌∙◌, subst}
use native.Mathlib.Omega.{arith}
use lib.Dec.{leb, eqb}
use lib.ListN.{length, get_or}
use borrow.Author.Tests.{leb-true}
use Rattle.base.proofs.Numbers.{pick-both, same?}
use Rattle.input.specs.Layout.{instructions}
use Rattle.input.specs.Records.{block_id, is_live, params_at, param_count, params_of, first_instr, instr_count}
use Rattle.input.specs.Forms.{both}
use Rattle.rows.specs.Rows.{Row, params, instr, term, instr_rows, block_rows, rows_from, over_rows, every, Ref, ref, refs, defined_by, row_defs, defined}
use Rattle.shape.specs.Shape.{list_in, params_shape, row_shape}
use Rattle.fit.specs.Intervals.{once}
use Rattle.sharing.proofs.Defined.{never, both_left, both_right, not-head, not-tail, Did, did_defined}

pub over-append : {A : Type 0} (g : ℕ → Row → List A) (r : ℕ) (xs ys : List Row) → over_rows g r (xs ++ ys) ≡ over_rows g r xs ++ over_rows g (r + length xs) ys
unfolding over_rows
over-append g r [] ys = let e : r ≡ r + 0 = omega arith in ap (λ (k : ℕ). over_rows g k ys) e
over-append g r (x ∷ xs) ys =
    let e : r + 1 + length xs ≡ r + suc (length xs) = omega arith in
    rw (over-append g (r + 1) xs ys, append_assoc, e)

-- what holds of every row holds of the one behind xs
pub every_at : (ok : ℕ → Row → Bool) (r : ℕ) (xs : List Row) (x : Row) (ys : List Row) → every ok r (xs ++ x ∷ ys) ≡ true → ok (r + length xs) x ≡ true
unfolding every
every_at ok r [] x ys h =
    let e : r + 0 ≡ r = omega arith in
    rw e (both_left (ok r x) (every ok (r + 1) ys) h)
every_at ok r (y ∷ xs) x ys h =
    let e : r + suc (length xs) ≡ r + 1 + length xs = omega arith in
    rw e (every_at ok (r + 1) xs x ys (both_right (ok r y) (every ok (r + 1) (xs ++ x ∷ ys)) h))

pub every-left : (ok : ℕ → Row → Bool) (r : ℕ) (xs ys : List Row) → every ok r (xs ++ ys) ≡ true → every ok r xs ≡ true
unfolding every
every-left ok r [] ys h = refl
every-left ok r (x ∷ xs) ys h =
    let e : ok r x ≡ true = both_left (ok r x) (every ok (r + 1) (xs ++ ys)) h in
    rw e (every-left ok (r + 1) xs ys (both_right (ok r x) (every ok (r + 1) (xs ++ ys)) h))

pub every_right : (ok : ℕ → Row → Bool) (r : ℕ) (xs ys : List Row) → every ok r (xs ++ ys) ≡ true → every ok (r + length xs) ys ≡ true
unfolding every
every_right ok r [] ys h = let e : r + 0 ≡ r = omega arith in rw e h
every_right ok r (x ∷ xs) ys h =
    let e : r + suc (length xs) ≡ r + 1 + length xs = omega arith in
    rw e (every_right ok (r + 1) xs ys (both_right (ok r x) (every ok (r + 1) (xs ++ ys)) h))

-- ---- the rows of definitions
refs-row : (q v r : ℕ) (vs : List ℕ) → Did q v (refs r vs) → q ≡ r
unfolding refs
refs-row q v r [] m = absurd (Memᴰ.not-nil m)
refs-row q v r (u ∷ vs) m = ⊎_elim (λ e. ap (λ (x : Ref). x.row) e) (λ k. refs-row q v r vs k) (Memᴰ.cases_cons m)

row-row : (ws : List ℕ) (q v r : ℕ) (x : Row) → Did q v (row_defs ws r x) → q ≡ r
unfolding row_defs
row-row ws q v r (params b) m = refs-row q v r (params_of ws b) m
row-row ws q v r (instr i) m = refs-row q v r (defined_by ws i) m
row-row ws q v r (term b) m = absurd (Memᴰ.not-nil m)

pub rows_before : (ws : List ℕ) (q v r : ℕ) (xs : List Row) → Did q v (over_rows (row_defs ws) r xs) → q < r + length xs
unfolding over_rows
rows_before ws q v r [] m = absurd (Memᴰ.not-nil m)
rows_before ws q v r (x ∷ xs) m =
    ⊎_elim
    (λ k. let e : q ≡ r = row-row ws q v r x k in omega arith)
    (λ k. omega (arith, rows_before ws q v (r + 1) xs k)) (Memᴰ.append_cases (row_defs ws r x) m)

pub rows-after : (ws : List ℕ) (q v r : ℕ) (xs : List Row) → Did q v (over_rows (row_defs ws) r xs) → r ≤ q
unfolding over_rows
rows-after ws q v r [] m = absurd (Memᴰ.not-nil m)
rows-after ws q v r (x ∷ xs) m =
    ⊎_elim
    (λ k. let e : q ≡ r = row-row ws q v r x k in omega arith)
    (λ k. omega (arith, rows-after ws q v (r + 1) xs k)) (Memᴰ.append_cases (row_defs ws r x) m)

-- ---- values of a list
pub refs_did : (r : ℕ) (vs : List ℕ) (i : ℕ) → i < length vs → Did r (get_or vs i 0) (refs r vs)
unfolding refs
refs_did r [] i l = absurd (omega arith)
refs_did r (v ∷ vs) zero l = Memᴰ.head refl
refs_did r (v ∷ vs) (suc i) l = Memᴰ.tail (refs_did r vs i (omega arith))

twice : (r v : ℕ) (vs : List ℕ) (i : ℕ) → once (ref r v ∷ refs r vs) ≡ true → i < length vs → v ≡ get_or vs i 0 → ⊥
unfolding once
twice r v vs i o l e =
    never
    (sym (did_defined r v (refs r vs) (subst (λ (x : ℕ). Did r x (refs r vs)) (sym e) (refs_did r vs i l)))
    ∙ not-head (defined v (refs r vs)) (once (refs r vs)) o)

-- none stands twice
pub refs_apart : (r : ℕ) (vs : List ℕ) (i j : ℕ) → once (refs r vs) ≡ true → i < length vs → j < length vs → get_or vs i 0 ≡ get_or vs j 0 → i ≡ j
unfolding refs once
refs_apart r [] i j o l k e = absurd (omega arith)
refs_apart r (v ∷ vs) zero zero o l k e = refl
refs_apart r (v ∷ vs) zero (suc j) o l k e = absurd (twice r v vs j o (omega arith) e)
refs_apart r (v ∷ vs) (suc i) zero o l k e = absurd (twice r v vs i o (omega arith) (sym e))
refs_apart r (v ∷ vs) (suc i) (suc j) o l k e = ap suc (refs_apart r vs i j (not-tail (defined v (refs r vs)) (once (refs r vs)) o) (omega arith) (omega arith) e)

-- ---- where a row stands
pub record At (rows : List Row) (x : Row) : Type 0 where
  pub before : List Row
  pub after : List Row
  pub is : rows ≡ before ++ x ∷ after

params_first : (ws : List ℕ) (b : ℕ) (rest : List Row) → is_live ws b ≡ true → At (block_rows ws b ++ rest) (params b)
unfolding block_rows
params_first ws b rest l =
    rw l (record { before = []; after = (instr_rows (first_instr ws b) (instr_count ws b) ++ (term b ∷ [])) ++ rest; is = refl })

behind : (xs : List Row) (rows : List Row) (x : Row) → At rows x → At (xs ++ rows) x
behind xs rows x a =
    record {
      before = xs ++ a.before;
      after = a.after;
      is = ap (λ (l : List Row). xs ++ l) a.is ∙ sym (append_assoc xs a.before (x ∷ a.after));
    }

-- a live block has its parameters' row
pub params_at_lem : (ws : List ℕ) (c m b : ℕ) → c ≤ b → b < c + m → is_live ws b ≡ true → At (rows_from ws c m) (params b)
unfolding rows_from
params_at_lem ws c zero b l k h = absurd (omega arith)
params_at_lem ws c (suc m) b l k h =
    ⊎_elim
    (λ (e : b ≡ c).
    subst (λ (x : ℕ). At (block_rows ws x ++ rows_from ws (x + 1) m) (params b)) e (params_first ws b (rows_from ws (b + 1) m) h))
    (λ (ne : b ≢ c).
    behind (block_rows ws c) (rows_from ws (c + 1) m) (params b) (params_at_lem ws (c + 1) m b (omega (arith, ne)) (omega arith) h))
    (same? b c)

-- ---- every instruction of a row is there
instr_low : (i c n : ℕ) → Memᴰ (instr i) (instr_rows c n) → i < c + n
unfolding instr_rows
instr_low i c zero m = absurd (Memᴰ.not-nil m)
instr_low i c (suc n) m =
    ⊎_elim (λ (e : instr i ≡ instr c). let q : i ≡ c = cc in omega arith) (λ k. omega (arith, instr_low i (c + 1) n k)) (Memᴰ.cases_cons m)

not_params : (i b : ℕ) → instr i ≡ params b → ⊥
not_params i b e = let z : ◌≡◌ {A = ℕ} 0 1 = cc in omega arith

not_term : (i b : ℕ) → instr i ≡ term b → ⊥
not_term i b e = let z : ◌≡◌ {A = ℕ} 0 1 = cc in omega arith

fits_block : (ws : List ℕ) (b : ℕ) → params_shape ws b ≡ true → first_instr ws b + instr_count ws b ≤ instructions ws
unfolding params_shape
fits_block ws b h =
    let there : Bool = list_in ws (params_at ws b) (param_count ws b) (params_of ws b) in
    let fits : Bool = leb (first_instr ws b + instr_count ws b) (instructions ws) in
    leb-true _ _ (both_right there fits (both_right (eqb (block_id ws b) b) (both there fits) h))

block_instr : (ws : List ℕ) (r b i : ℕ) → every (row_shape ws) r (block_rows ws b) ≡ true → Memᴰ (instr i) (block_rows ws b) → i < instructions ws
unfolding block_rows every
block_instr ws r b i =
    pick-both (λ (l : List Row). every (row_shape ws) r l ≡ true → Memᴰ (instr i) l → i < instructions ws) (is_live ws b) _ _
    (λ h m.
    ⊎_elim (λ (e : instr i ≡ params b). absurd (not_params i b e))
    (λ k.
    ⊎_elim
    (λ q. omega (arith, instr_low i (first_instr ws b) (instr_count ws b) q, fits_block ws b (both_left (params_shape ws b) _ h)))
    (λ q. absurd (not_term i b (Memᴰ.eq_of_singleton q))) (Memᴰ.append_cases (instr_rows (first_instr ws b) (instr_count ws b)) k))
    (Memᴰ.cases_cons m))
    (λ h m. absurd (Memᴰ.not-nil m))

pub rows_instr : (ws : List ℕ) (r b n i : ℕ) → every (row_shape ws) r (rows_from ws b n) ≡ true → Memᴰ (instr i) (rows_from ws b n) → i < instructions ws
unfolding rows_from
rows_instr ws r b zero i h m = absurd (Memᴰ.not-nil m)
rows_instr ws r b (suc n) i h m =
    ⊎_elim (λ k. block_instr ws r b i (every-left (row_shape ws) r (block_rows ws b) (rows_from ws (b + 1) n) h) k)
    (λ k. rows_instr ws (r + length (block_rows ws b)) (b + 1) n i (every_right (row_shape ws) r (block_rows ws b) (rows_from ws (b + 1) n) h) k)
    (Memᴰ.append_cases (block_rows ws b) m)
