-- Which values a list of definitions defines, and at which row; what it is that none is defined twice.
use Prim.Native.Nat.{ℕ}
use mathlib.Core.Bool.{Bool, true, false}
use mathlib.Core.List.Memᴰ
use mathlib.Core.List.{List, [], ◌∷◌, ◌++◌, Memᴰ}
use mathlib.Core.Logic.{⊎_elim}
use mathlib.Core.Path.{◌≡◌, refl, sym, ap, ◌∙◌}
use native.Mathlib.Omega.{arith}
use lib.Dec.{eqb}
use borrow.Author.Tests.{eq-eqb, eqb-true}
use Rattle.base.specs.Choice.{pick}
use Rattle.base.proofs.Numbers.{pick-both}
use Rattle.input.specs.Forms.{both}
use Rattle.rows.specs.Rows.{Ref, ref, defined, row_in}
use Rattle.fit.specs.Intervals.{once}

-- ---- tests
pub never : true ≡ false → ⊥
never e = let z : ◌≡◌ {A = ℕ} 0 1 = cc in omega arith

pub both_left : (a b : Bool) → both a b ≡ true → a ≡ true
both_left true b e = refl
both_left false b e = e

pub both_right : (a b : Bool) → both a b ≡ true → b ≡ true
both_right true b e = e
both_right false b e = absurd (never (sym e))

pub not-head : (b x : Bool) → pick b false x ≡ true → b ≡ false
not-head true x e = sym e
not-head false x e = refl

pub not-tail : (b x : Bool) → pick b false x ≡ true → x ≡ true
not-tail true x e = absurd (never (sym e))
not-tail false x e = e

-- ---- value v is defined at row r
abbrev pub Did : ℕ → ℕ → List Ref → Type 0
Did r v ds = Memᴰ (ref r v) ds

abbrev pub Not : ℕ → List Ref → Type 0
Not v ds = (r : ℕ) → Did r v ds → ⊥

pub one_row : (q u r v : ℕ) → Did q u (ref r v ∷ []) → q ≡ r
one_row q u r v d = ⊎_elim (λ e. ap (λ (x : Ref). x.row) e) (λ m. absurd (Memᴰ.not-nil m)) (Memᴰ.cases_cons d)

pub one_value : (q u r v : ℕ) → Did q u (ref r v ∷ []) → u ≡ v
one_value q u r v d = ⊎_elim (λ e. ap (λ (x : Ref). x.value) e) (λ m. absurd (Memᴰ.not-nil m)) (Memᴰ.cases_cons d)

pub did_defined : (r v : ℕ) (ds : List Ref) → Did r v ds → defined v ds ≡ true
unfolding defined
did_defined r v [] m = absurd (Memᴰ.not-nil m)
did_defined r v (d ∷ ds) m =
    ⊎_elim (λ e. let q : d.value ≡ v = sym (ap (λ (x : Ref). x.value) e) in rw (eq-eqb d.value v q))
    (λ k. pick-both (λ (b : Bool). b ≡ true) (eqb d.value v) _ _ refl (did_defined r v ds k)) (Memᴰ.cases_cons m)

pub did_at : (v : ℕ) (ds : List Ref) → defined v ds ≡ true → Did (row_in v ds) v ds
unfolding defined row_in
did_at v [] e = absurd (never (sym e))
did_at v (d ∷ ds) e = go (eqb d.value v) refl e (λ k. did_at v ds k)
  where
    go : (b : Bool) → eqb d.value v ≡ b → pick b true (defined v ds) ≡ true → (defined v ds ≡ true → Did (row_in v ds) v ds)
        → Did (pick b d.row (row_in v ds)) v (d ∷ ds)
    go true q e k = Memᴰ.head (ap (ref d.row) (sym (eqb-true d.value v q)))
    go false q e k = Memᴰ.tail (k e)

-- ---- none is defined twice
pub once-left : (xs ys : List Ref) → once (xs ++ ys) ≡ true → once xs ≡ true
unfolding once
once-left [] ys o = refl
once-left (x ∷ xs) ys o =
    go (defined x.value xs) (λ e. did_defined _ x.value (xs ++ ys) (Memᴰ.append_left ys (did_at x.value xs e)))
    (not-head (defined x.value (xs ++ ys)) (once (xs ++ ys)) o)
    (once-left xs ys (not-tail (defined x.value (xs ++ ys)) (once (xs ++ ys)) o))
  where
    go : (b : Bool) → (b ≡ true → defined x.value (xs ++ ys) ≡ true) → defined x.value (xs ++ ys) ≡ false → once xs ≡ true → pick b false (once xs) ≡ true
    go true h e k = absurd (never (sym (h refl) ∙ e))
    go false h e k = k

pub once_right : (xs ys : List Ref) → once (xs ++ ys) ≡ true → once ys ≡ true
unfolding once
once_right [] ys o = o
once_right (x ∷ xs) ys o = once_right xs ys (not-tail (defined x.value (xs ++ ys)) (once (xs ++ ys)) o)

pub once_cross : (xs ys : List Ref) → once (xs ++ ys) ≡ true → (q r v : ℕ) → Did q v xs → Did r v ys → ⊥
unfolding once
once_cross [] ys o q r v m k = Memᴰ.not-nil m
once_cross (x ∷ xs) ys o q r v m k =
    ⊎_elim
    (λ e.
    let z : defined v (xs ++ ys) ≡ false =
    ap (λ (u : ℕ). defined u (xs ++ ys)) (ap (λ (d : Ref). d.value) e) ∙ not-head (defined x.value (xs ++ ys)) (once (xs ++ ys)) o in
    never (sym (did_defined r v (xs ++ ys) (Memᴰ.append_right xs k)) ∙ z))
    (λ m'. once_cross xs ys (not-tail (defined x.value (xs ++ ys)) (once (xs ++ ys)) o) q r v m' k) (Memᴰ.cases_cons m)

-- the row where a value is defined is its row
pub once-row : (r v : ℕ) (ds : List Ref) → once ds ≡ true → Did r v ds → row_in v ds ≡ r
unfolding once row_in
once-row r v [] o m = absurd (Memᴰ.not-nil m)
once-row r v (d ∷ ds) o m =
    ⊎_elim
    (λ e. let q : d.value ≡ v = sym (ap (λ (x : Ref). x.value) e) in rw (eq-eqb d.value v q) (sym (ap (λ (x : Ref). x.row) e)))
    (λ k. go (eqb d.value v) refl k (once-row r v ds (not-tail (defined d.value ds) (once ds) o) k)) (Memᴰ.cases_cons m)
  where
    go : (b : Bool) → eqb d.value v ≡ b → Did r v ds → row_in v ds ≡ r → pick b d.row (row_in v ds) ≡ r
    go true q k ih = absurd (never (sym (did_defined r v ds k) ∙ ap (λ (u : ℕ). defined u ds) (sym (eqb-true d.value v q)) ∙ not-head (defined d.value ds) (once ds) o))
    go false q k ih = ih
