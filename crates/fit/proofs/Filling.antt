-- Refusal 4: filling the table of rows answers whether every value is defined once, and then the table holds each value's row.
use Rattle.std.proofs.Common.{◌≡◌, ℕ, ◌+◌, ◌-◌, ◌<◌, ◌≤◌, Bool, true, false, eqb, ◌≢◌, List, [], ◌∷◌, ◌++◌, length, get_or, set, sym, refl, ap, ◌∙◌, ⊎_elim, true≢false, append_assoc, append-nil, add-zero, add_assoc, arith, length-set, get_or-set_other, get_or-set_same, eq-eqb, ne_eqb, eqb-true}
use mathlib.Core.Bool.{false≢true}
use borrow.Author.Tests.{eqb-false}
use Rattle.base.specs.Choice.{pick}
use Rattle.base.proofs.Numbers.{same?, both}
use Rattle.input.specs.Layout.{pool_at, list_at}
use Rattle.rows.specs.Rows.{Ref, ref, refs, maybe, defined, row_in}
use Rattle.fit.specs.Intervals.{once}
use Rattle.fit.specs.Tabled.{Tabled, Roomy, Marks, marks, mark, marked}
use Rattle.fit.proofs.Counts.{Counted, counted-turn, counted-end}
use Rattle.fit.proofs.Checks.{maybe_none, maybe-some}

-- ---- the loop over a row's parameters

-- filling that has stopped changes nothing
pub marked_stopped : (ds : List Ref) (t : List ℕ) → marked ds (marks t false) ≡ marks t false
unfolding marked mark
marked_stopped [] t = refl
marked_stopped (d ∷ ds) t = marked_stopped ds t

pub marks-counted : (ws : List ℕ) (r at : ℕ)
    → Counted (λ (j k : ℕ). marked (refs r (list_at ws (at + j) k))) (λ (n : ℕ). marked (refs r (list_at ws at n))) (λ (m : Marks). m)
    (λ (j : ℕ) (rest : Marks → Marks) (m : Marks). rest (mark (ref r (pool_at ws (at + j))) m))
unfolding marked refs list_at
marks-counted ws r at =
    record {
      starts = λ (n : ℕ). ap (λ (a : ℕ). marked (refs r (list_at ws a n))) (add-zero at);
      turns = λ (j k : ℕ).
          let rest : ℕ → Marks → Marks = λ a m. marked (refs r (list_at ws a k)) (mark (ref r (pool_at ws (at + j))) m) in
          ap rest (add_assoc at j 1);
      ends = λ (j : ℕ). refl;
    }

module _ (ws : List ℕ) (r at n j : ℕ) (t t' : List ℕ) (m : Marks) where
  abbrev Left : List ℕ → ℕ → Type 0
  Left l k = marked (refs r (list_at ws (at + k) (n - k))) (marks l true) ≡ m

  -- a parameter that had no row: the rest follows
  pub marks_go : j < n → marks t' true ≡ mark (ref r (pool_at ws (at + j))) (marks t true) → Left t j → Left t' (j + 1)
  marks_go h e i =
      ap (marked (refs r (list_at ws (at + (j + 1)) (n - (j + 1))))) e
      ∙ sym (ap (λ (f : Marks → Marks). f (marks t true)) (counted-turn (marks-counted ws r at) n j h)) ∙ i

  -- one that had a row: filling stops
  pub marks-stop : j < n → marks t' false ≡ mark (ref r (pool_at ws (at + j))) (marks t true) → Left t j → marks t' false ≡ m
  marks-stop h e i =
      sym (marked_stopped (refs r (list_at ws (at + (j + 1)) (n - (j + 1)))) t')
      ∙ ap (marked (refs r (list_at ws (at + (j + 1)) (n - (j + 1))))) e
      ∙ sym (ap (λ (f : Marks → Marks). f (marks t true)) (counted-turn (marks-counted ws r at) n j h)) ∙ i

  -- none left
  pub marks-end : n ≤ j → Left t j → marks t true ≡ m
  marks-end h i = sym (ap (λ (f : Marks → Marks). f (marks t true)) (counted-end (marks-counted ws r at) n j h)) ∙ i

-- ---- a destination

pub marked_none : (r d : ℕ) (m : Marks) → d ≡ 0 → marked (refs r (maybe d)) m ≡ m
unfolding marked refs
marked_none r d m e = rw (maybe_none d e)

pub marked-some : (r d : ℕ) (m : Marks) → (d ≡ 0 → ⊥) → marked (refs r (maybe d)) m ≡ mark (ref r (d - 1)) m
unfolding marked refs
marked-some r d m h = rw (maybe-some d h)

-- ---- one definition

pub mark-new : (t : List ℕ) (d : Ref) → get_or t d.value 0 ≡ 0 → mark d (marks t true) ≡ marks (set t d.value (d.row + 1)) true
unfolding mark
mark-new t d e = rw e

pub mark-again : (t : List ℕ) (d : Ref) → (get_or t d.value 0 ≡ 0 → ⊥) → mark d (marks t true) ≡ marks t false
unfolding mark
mark-again t d h = rw (ne_eqb (get_or t d.value 0) 0 h)

-- ---- runs of definitions

-- rows one after another
pub marked_append : (ds es : List Ref) (m : Marks) → marked (ds ++ es) m ≡ marked es (marked ds m)
unfolding marked
marked_append [] es m = refl
marked_append (d ∷ ds) es m = marked_append ds es (mark d m)

-- ---- definitions behind others

or_cons : (a b c d : Bool) → d ≡ pick b true c → pick a true d ≡ pick (pick a true b) true c
or_cons true b c d e = refl
or_cons false b c d e = e

pub defined-append : (v : ℕ) (es ds : List Ref) → defined v (es ++ ds) ≡ pick (defined v es) true (defined v ds)
unfolding defined
defined-append v [] ds = refl
defined-append v (e ∷ es) ds = or_cons (eqb e.value v) (defined v es) (defined v ds) (defined v (es ++ ds)) (defined-append v es ds)

row_cons : (a b : Bool) (r x y z : ℕ) → z ≡ pick b x y → pick a r z ≡ pick (pick a true b) (pick a r x) y
row_cons true b r x y z e = refl
row_cons false b r x y z e = e

pub row_in-append : (v : ℕ) (es ds : List Ref) → row_in v (es ++ ds) ≡ pick (defined v es) (row_in v es) (row_in v ds)
unfolding defined row_in
row_in-append v [] ds = refl
row_in-append v (e ∷ es) ds = row_cons (eqb e.value v) (defined v es) e.row (row_in v es) (row_in v ds) (row_in v (es ++ ds)) (row_in-append v es ds)

or_true : (b : Bool) → pick b true true ≡ true
or_true true = refl
or_true false = refl

or_false : (b : Bool) → pick b true false ≡ b
or_false true = refl
or_false false = refl

defined_at : (v : ℕ) (es : List Ref) (d : Ref) (ds : List Ref) → d.value ≡ v → defined v (es ++ (d ∷ ds)) ≡ true
unfolding defined
defined_at v es d ds e = defined-append v es (d ∷ ds) ∙ rw (eq-eqb d.value v e) (or_true (defined v es))

defined_other : (v : ℕ) (es : List Ref) (d : Ref) → (d.value ≡ v → ⊥) → defined v (es ++ (d ∷ [])) ≡ defined v es
unfolding defined
defined_other v es d h = defined-append v es (d ∷ []) ∙ rw (ne_eqb d.value v h) (or_false (defined v es))

-- ---- defined once

clash : (a b x : Bool) → (a ≡ true → b ≡ true) → (a ≡ false → x ≡ false) → pick b false x ≡ false
clash true b x f g = rw (f refl)
clash false true x f g = refl
clash false false x f g = g refl

-- a value defined before is defined twice
once-again : (es : List Ref) (d : Ref) (ds : List Ref) → defined d.value es ≡ true → once (es ++ (d ∷ ds)) ≡ false
unfolding once defined
once-again [] d ds h = absurd (false≢true h)
once-again (e ∷ es) d ds h =
    clash (eqb e.value d.value) (defined e.value (es ++ (d ∷ ds))) (once (es ++ (d ∷ ds)))
    (λ (q : eqb e.value d.value ≡ true). defined_at e.value es d ds (sym (eqb-true e.value d.value q)))
    (λ (q : eqb e.value d.value ≡ false). once-again es d ds (rw q at h))

split : (a x : Bool) → pick a false x ≡ true → (a ≡ false) × (x ≡ true)
split true x h = absurd (false≢true h)
split false x h = (refl, h)

neither : (a b : Bool) → pick a true b ≡ false → (a ≡ false) × (b ≡ false)
neither true b h = absurd (true≢false h)
neither false b h = (refl, h)

-- a value that was not defined before may be defined
once-new : (es : List Ref) (d : Ref) → once es ≡ true → defined d.value es ≡ false → once (es ++ (d ∷ [])) ≡ true
unfolding once defined
once-new [] d o h = refl
once-new (e ∷ es) d o h =
    let p = split (defined e.value es) (once es) o in
    let q = neither (eqb e.value d.value) (defined d.value es) h in
    let f = defined_other e.value es d (λ k. eqb-false e.value d.value q.0 (sym k)) ∙ p.0 in
    rw f (once-new es d p.1 q.1)

-- ---- the table

unset : (b : Bool) (x row : ℕ) → x ≡ pick b (row + 1) 0 → x ≡ 0 → b ≡ false
unset true x row e z = absurd (omega arith)
unset false x row e z = refl

is_set : (b : Bool) (x row : ℕ) → x ≡ pick b (row + 1) 0 → (x ≡ 0 → ⊥) → b ≡ true
is_set true x row e h = refl
is_set false x row e h = absurd (h e)

kept : (b : Bool) (x row other : ℕ) → x ≡ pick b (row + 1) 0 → x ≡ pick b (pick b row other + 1) 0
kept true x row other e = e
kept false x row other e = e

module _ (t : List ℕ) (es : List Ref) (d : Ref) (tab : Tabled t es) where
  new_row : defined d.value es ≡ false → d.value < length t
      → get_or (set t d.value (d.row + 1)) d.value 0
      ≡ pick (defined d.value (es ++ (d ∷ []))) (row_in d.value (es ++ (d ∷ [])) + 1) 0
  unfolding row_in
  new_row h k =
      let e : row_in d.value (es ++ (d ∷ [])) ≡ d.row =
      row_in-append d.value es (d ∷ []) ∙ rw (h, eq-eqb d.value d.value refl) in
      get_or-set_same t d.value (d.row + 1) 0 k ∙ sym (rw (defined_at d.value es d [] refl, e))

  old_row : (v : ℕ) → (d.value ≡ v → ⊥)
      → get_or (set t d.value (d.row + 1)) v 0 ≡ pick (defined v (es ++ (d ∷ []))) (row_in v (es ++ (d ∷ [])) + 1) 0
  old_row v h =
      get_or-set_other t d.value v (d.row + 1) 0 (λ k. h (sym k))
      ∙ rw (defined_other v es d h, row_in-append v es (d ∷ [])) (kept (defined v es) (get_or t v 0) (row_in v es) (row_in v (d ∷ [])) (tab v))

  tabled-new : defined d.value es ≡ false → d.value < length t → Tabled (set t d.value (d.row + 1)) (es ++ (d ∷ []))
  tabled-new h k v =
      ⊎_elim
      (λ (e : d.value ≡ v). rw (← e) (new_row h k))
      (λ (n : d.value ≢ v). old_row v n)
      (same? d.value v)

-- what filling gives: whether each value is defined once, and then the table of rows
pub record Filled (m : Marks) (ds : List Ref) : Type 0 where
  pub fresh_is : m.fresh ≡ once ds
  pub tabled : once ds ≡ true → Tabled m.table ds

room-first : (n : ℕ) (d : Ref) (ds : List Ref) → Roomy n (d ∷ ds) → d.value < n
unfolding defined
room-first n d ds room = room d.value (rw (eq-eqb d.value d.value refl))

room-rest : (n : ℕ) (d : Ref) (ds : List Ref) → Roomy n (d ∷ ds) → Roomy n ds
unfolding defined
room-rest n d ds room v h = room v (rw h (or_true (eqb d.value v)))

-- room for a run of definitions is room for each
pub roomy_none : (n : ℕ) → Roomy n []
unfolding defined
roomy_none n v h = absurd (false≢true h)

pub roomy_cons : (n : ℕ) (d : Ref) (ds : List Ref) → d.value < n → Roomy n ds → Roomy n (d ∷ ds)
unfolding defined
roomy_cons n d ds k room v h =
    ⊎_elim
    (λ (e : d.value ≡ v). rw (← e) k)
    (λ (u : d.value ≢ v). room v (rw (ne_eqb d.value v u) at h))
    (same? d.value v)

pub roomy_append : (n : ℕ) (es ds : List Ref) → Roomy n es → Roomy n ds → Roomy n (es ++ ds)
roomy_append n es ds r q v h =
    ⊎_elim
    (λ (e : defined v es ≡ true). r v e)
    (λ (e : defined v es ≡ false). q v (rw (defined-append v es ds, e) at h))
    (both (defined v es))

-- behind definitions that the table holds already
pub filled : (ds es : List Ref) (t : List ℕ) → Tabled t es → once es ≡ true → Roomy (length t) ds → Filled (marked ds (marks t true)) (es ++ ds)
unfolding marked
filled [] es t tab o room = rw append-nil (record { fresh_is = sym o; tabled = λ _. tab })
filled (d ∷ ds) es t tab o room =
    ⊎_elim
    (λ (z : get_or t d.value 0 ≡ 0).
    let h : defined d.value es ≡ false = unset (defined d.value es) (get_or t d.value 0) (row_in d.value es) (tab d.value) z in
    let k : d.value < length t = room-first (length t) d ds room in
    rw (mark-new t d z, ← append_assoc es (d ∷ []) ds)
    (filled ds (es ++ (d ∷ [])) (set t d.value (d.row + 1)) (tabled-new t es d tab h k) (once-new es d o h)
    (rw length-set (room-rest (length t) d ds room))))
    (λ (z : get_or t d.value 0 ≢ 0).
    let h : defined d.value es ≡ true = is_set (defined d.value es) (get_or t d.value 0) (row_in d.value es) (tab d.value) z in
    let f : once (es ++ (d ∷ ds)) ≡ false = once-again es d ds h in
    rw (mark-again t d z, marked_stopped ds t) (record { fresh_is = sym f; tabled = λ e. absurd (false≢true (sym f ∙ e)) }))
    (same? (get_or t d.value 0) 0)

-- from a table of zeros on: the answer is `once ds`, and where that holds the table holds each value's row
pub filled-whole : (ds : List Ref) (t : List ℕ) → ((v : ℕ) → get_or t v 0 ≡ 0) → Roomy (length t) ds → Filled (marked ds (marks t true)) ds
unfolding defined once
filled-whole ds t zeros room = filled ds [] t zeros refl room
