-- Laws of lists of numbers in which none stands twice: in any order, one by one, and as counts.
use mathlib.Core.Path.{◌≡◌, refl, sym, ap, ◌∙◌}
use mathlib.Core.Logic.{⊎_elim}
use mathlib.Core.Bool.{Bool, true, false}
use mathlib.Core.List.{List, [], ◌∷◌, ◌++◌, append_assoc}
use Prim.Native.Nat.{ℕ, zero, suc, ◌+◌, ◌≤◌, ◌<◌}
use native.Mathlib.Nat.{le_of_suc-le-suc, not-suc-le-zero}
use native.Mathlib.Omega.{arith}
use lib.Dec.{eqb}
use lib.ListN.{length, get_or}
use borrow.Author.Tests.{eqb-true, eq-eqb}
use Rattle.base.specs.Choice.{pick}
use Rattle.base.specs.Lists.{among, distinct}
use Rattle.base.proofs.Numbers.{both, lt?}
use Rattle.alloc.specs.Good.{bit, stacked}

-- ---- tests
pub true-not-false : true ≡ false → ⊥
true-not-false e = let z : ◌≡◌ {A = ℕ} 0 1 = cc in omega arith

pub clash : {b : Bool} → b ≡ true → b ≡ false → ⊥
clash e f = true-not-false (sym e ∙ f)

pub iff : (a b : Bool) → (a ≡ true → b ≡ true) → (b ≡ true → a ≡ true) → a ≡ b
iff true b f g = sym (f refl)
iff false true f g = g refl
iff false false f g = refl

-- both of two tests
pub and_intro : (a b : Bool) → a ≡ true → b ≡ true → pick a b false ≡ true
and_intro a b e f = rw (e, f)

pub and_left : (a b : Bool) → pick a b false ≡ true → a ≡ true
and_left true b e = refl
and_left false b e = e

pub and_right : (a b : Bool) → pick a b false ≡ true → b ≡ true
and_right true b e = e
and_right false b e = absurd (true-not-false (sym e))

-- the first not, and the second
not_left : (a b : Bool) → pick a false b ≡ true → a ≡ false
not_left true b e = absurd (true-not-false (sym e))
not_left false b e = refl

not_right : (a b : Bool) → pick a false b ≡ true → b ≡ true
not_right true b e = absurd (true-not-false (sym e))
not_right false b e = e

pub eqb-sym : (a b : ℕ) → eqb a b ≡ eqb b a
eqb-sym a b = iff (eqb a b) (eqb b a) (λ e. eq-eqb b a (sym (eqb-true a b e))) (λ e. eq-eqb a b (sym (eqb-true b a e)))

-- ---- among: at the head or in the rest
pub among_case : {P : Type 0} (x y : ℕ) (ys : List ℕ) → among x (y ∷ ys) ≡ true → (x ≡ y → P) → (among x ys ≡ true → P) → P
among_case {P} x y ys a f g = go (eqb x y) refl a
  where
    go : (t : Bool) → eqb x y ≡ t → pick t true (among x ys) ≡ true → P
    go true e h = f (eqb-true x y e)
    go false e h = g h

-- of two parts, and in any order
or_assoc : (a b c : Bool) → pick a true (pick b true c) ≡ pick (pick a true b) true c
or_assoc true b c = refl
or_assoc false b c = refl

pub among-append : (x : ℕ) (xs ys : List ℕ) → among x (xs ++ ys) ≡ pick (among x xs) true (among x ys)
among-append x [] ys = refl
among-append x (y ∷ xs) ys = rw (among-append x xs ys) (or_assoc (eqb x y) (among x xs) (among x ys))

or_swap : (a b c : Bool) → pick a true (pick b true c) ≡ pick b true (pick a true c)
or_swap true true c = refl
or_swap true false c = refl
or_swap false b c = refl

among_swap : (x : ℕ) (ps qs rs : List ℕ) → among x (qs ++ (ps ++ rs)) ≡ among x (ps ++ (qs ++ rs))
among_swap x ps qs rs =
    rw (among-append x qs (ps ++ rs), among-append x ps rs, among-append x ps (qs ++ rs), among-append x qs rs)
    (or_swap (among x qs) (among x ps) (among x rs))

-- ---- distinct, in any order
swap : (e a b d : Bool) → pick (pick e true a) false (pick b false d) ≡ pick (pick e true b) false (pick a false d)
swap true a b d = refl
swap false true true d = refl
swap false true false d = refl
swap false false b d = refl

among-move : (x p : ℕ) (ps qs : List ℕ) → among x (ps ++ p ∷ qs) ≡ pick (eqb x p) true (among x (ps ++ qs))
among-move x p ps qs =
    rw (among-append x ps (p ∷ qs), among-append x ps qs) (or_swap (among x ps) (eqb x p) (among x qs))

distinct-move : (p : ℕ) (ps qs : List ℕ) → distinct (ps ++ p ∷ qs) ≡ distinct (p ∷ (ps ++ qs))
distinct-move p [] qs = refl
distinct-move p (x ∷ ps) qs =
    rw (among-move x p ps qs, distinct-move p ps qs, eqb-sym x p)
    (swap (eqb p x) (among x (ps ++ qs)) (among p (ps ++ qs)) (distinct (ps ++ qs)))

swapped : (ps qs rs : List ℕ) → distinct (qs ++ (ps ++ rs)) ≡ distinct (ps ++ (qs ++ rs))
swapped [] qs rs = refl
swapped (x ∷ ps) qs rs = distinct-move x qs (ps ++ rs) ∙ rw (among_swap x ps qs rs, swapped ps qs rs)

pub distinct_swap : (ps qs rs : List ℕ) → distinct ((qs ++ ps) ++ rs) ≡ distinct ((ps ++ qs) ++ rs)
distinct_swap ps qs rs = rw (append_assoc qs ps rs, append_assoc ps qs rs) (swapped ps qs rs)

-- ---- one by one: none stands in a list, nor twice
unfoldable pub fresh_in : List ℕ → List ℕ → Bool
fresh_in [] qs = true
fresh_in (p ∷ ps) qs = pick (among p qs) false (fresh_in ps (p ∷ qs))

fresh_case : (p : ℕ) (ps qs : List ℕ) (b : Bool) → among p qs ≡ b → distinct qs ≡ true → (distinct (p ∷ qs) ≡ true → fresh_in ps (p ∷ qs) ≡ distinct (ps ++ p ∷ qs))
    → pick b false (fresh_in ps (p ∷ qs)) ≡ distinct (p ∷ (ps ++ qs))
fresh_case p ps qs true e d ih = rw (among-append p ps qs, e) (sym (last (among p ps) (distinct (ps ++ qs))))
  where
    last : (a b : Bool) → pick (pick a true true) false b ≡ false
    last true b = refl
    last false b = refl
fresh_case p ps qs false e d ih = ih (rw (e, d)) ∙ distinct-move p ps qs

pub fresh-distinct : (ps qs : List ℕ) → distinct qs ≡ true → fresh_in ps qs ≡ distinct (ps ++ qs)
unfolding fresh_in
fresh-distinct [] qs d = sym d
fresh-distinct (p ∷ ps) qs d = fresh_case p ps qs (among p qs) refl d (λ k. fresh-distinct ps (p ∷ qs) k)

-- ---- counts
count_case : (x y : ℕ) (ys : List ℕ) (b : Bool) → eqb x y ≡ b → (among x ys ≡ true → 0 < stacked x ys) → pick b true (among x ys) ≡ true → 0 < bit b + stacked x ys
count_case x y ys true e ih h = omega arith
count_case x y ys false e ih h = omega (arith, ih h)

pub among-count : (x : ℕ) (ys : List ℕ) → among x ys ≡ true → 0 < stacked x ys
unfolding stacked
among-count x [] h = absurd (true-not-false (sym h))
among-count x (y ∷ ys) h = count_case x y ys (eqb x y) refl (among-count x ys) h

back_case : (x : ℕ) (ys : List ℕ) (b : Bool) → (0 < stacked x ys → among x ys ≡ true) → 0 < bit b + stacked x ys → pick b true (among x ys) ≡ true
back_case x ys true ih h = refl
back_case x ys false ih h = ih (omega arith)

pub count-among : (x : ℕ) (ys : List ℕ) → 0 < stacked x ys → among x ys ≡ true
unfolding stacked
count-among x [] h = absurd (omega arith)
count-among x (y ∷ ys) h = back_case x ys (eqb x y) (count-among x ys) h

-- what does not stand there counts 0
pub not-among-count : (x : ℕ) (ys : List ℕ) → among x ys ≡ false → stacked x ys ≡ 0
not-among-count x ys e =
    ⊎_elim
    (λ (h : 0 < stacked x ys). absurd (clash (count-among x ys h) e))
    (λ (h : stacked x ys ≤ 0). omega arith)
    (lt? 0 (stacked x ys))

once_case : (x y : ℕ) (ys : List ℕ) (b : Bool) → eqb x y ≡ b → among y ys ≡ false → stacked x ys ≤ 1 → bit b + stacked x ys ≤ 1
once_case x y ys true e a h = omega (arith, not-among-count x ys (rw (eqb-true x y e) a))
once_case x y ys false e a h = omega arith

pub distinct-count : (ys : List ℕ) → distinct ys ≡ true → (x : ℕ) → stacked x ys ≤ 1
unfolding stacked
distinct-count [] d x = omega arith
distinct-count (y ∷ ys) d x =
    once_case x y ys (eqb x y) refl (not_left (among y ys) (distinct ys) d)
    (distinct-count ys (not_right (among y ys) (distinct ys) d) x)

pub count-distinct : (ys : List ℕ) → ((x : ℕ) → stacked x ys ≤ 1) → distinct ys ≡ true
unfolding stacked
count-distinct [] h = refl
count-distinct (y ∷ ys) h =
    let s : bit (eqb y y) ≡ 1 = ap bit (eq-eqb y y refl) in
    ⊎_elim
    (λ (e : among y ys ≡ true). absurd (omega (arith, h y, among-count y ys e)))
    (λ (e : among y ys ≡ false). rw e (count-distinct ys (λ x. omega (arith, h x))))
    (both (among y ys))

-- ---- where they stand
among_at : (ys : List ℕ) (i : ℕ) → i < length ys → among (get_or ys i 0) ys ≡ true
among_at [] i l = absurd (not-suc-le-zero l)
among_at (y ∷ ys) zero l = rw (eq-eqb y y refl)
among_at (y ∷ ys) (suc i) l = pick-any (eqb (get_or ys i 0) y) (among (get_or ys i 0) ys) (among_at ys i (le_of_suc-le-suc l))
  where
    pick-any : (a b : Bool) → b ≡ true → pick a true b ≡ true
    pick-any true b e = refl
    pick-any false b e = e

-- two places with one number are one
pub distinct-once : (ys : List ℕ) → distinct ys ≡ true → (i j : ℕ) → i < length ys → j < length ys → get_or ys i 0 ≡ get_or ys j 0 → i ≡ j
distinct-once [] d i j l k e = absurd (not-suc-le-zero l)
distinct-once (y ∷ ys) d zero zero l k e = refl
distinct-once (y ∷ ys) d zero (suc j) l k e =
    absurd (clash (rw (← e) at (among_at ys j (le_of_suc-le-suc k))) (not_left (among y ys) (distinct ys) d))
distinct-once (y ∷ ys) d (suc i) zero l k e =
    absurd (clash (rw e at (among_at ys i (le_of_suc-le-suc l))) (not_left (among y ys) (distinct ys) d))
distinct-once (y ∷ ys) d (suc i) (suc j) l k e =
    ap suc (distinct-once ys (not_right (among y ys) (distinct ys) d) i j (le_of_suc-le-suc l) (le_of_suc-le-suc k) e)

or_right : (a b : Bool) → pick a true b ≡ false → b ≡ false
or_right true b e = absurd (true-not-false e)
or_right false b e = e

or_left : (a b : Bool) → pick a true b ≡ false → a ≡ false
or_left true b e = absurd (true-not-false e)
or_left false b e = refl

-- of two parts: the first by itself, and none of it in the second
pub distinct-left : (xs ys : List ℕ) → distinct (xs ++ ys) ≡ true → distinct xs ≡ true
distinct-left [] ys d = refl
distinct-left (x ∷ xs) ys d =
    let a : among x (xs ++ ys) ≡ false = not_left (among x (xs ++ ys)) (distinct (xs ++ ys)) d in
    rw (or_left (among x xs) (among x ys) (sym (among-append x xs ys) ∙ a))
    (distinct-left xs ys (not_right (among x (xs ++ ys)) (distinct (xs ++ ys)) d))

pub distinct_apart : (xs ys : List ℕ) → distinct (xs ++ ys) ≡ true → (i : ℕ) → i < length xs → among (get_or xs i 0) ys ≡ false
distinct_apart [] ys d i l = absurd (not-suc-le-zero l)
distinct_apart (x ∷ xs) ys d zero l =
    or_right (among x xs) (among x ys)
    (sym (among-append x xs ys) ∙ not_left (among x (xs ++ ys)) (distinct (xs ++ ys)) d)
distinct_apart (x ∷ xs) ys d (suc i) l =
    distinct_apart xs ys (not_right (among x (xs ++ ys)) (distinct (xs ++ ys)) d) i (le_of_suc-le-suc l)
