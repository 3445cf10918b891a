-- The first ready move, and lists of moves where none is: there SCRATCH is no source, by counting.
use mathlib.Core.Path.{◌≡◌, refl, sym, ap, ◌∙◌}
use mathlib.Core.Logic.{◌≢◌}
use Prim.Native.Nat.{ℕ, zero, suc, ◌≤◌, ◌<◌, zero-le, suc-le-suc}
use mathlib.Core.List.{List, [], ◌∷◌}
use mathlib.Core.Bool.{Bool, true, false, true≢false}
use native.Mathlib.Nat.{not-suc-le-zero, le_of_suc-le-suc}
use native.Mathlib.Omega.{arith}
use borrow.Author.Tests.{eqb-true}
use lib.ListN.{length, get_or}
use lib.Dec.{eqb}
use Rattle.base.specs.Choice.{pick}
use Rattle.base.specs.Lists.{among}
use Rattle.moves.specs.Moves.{first_ready}
use Rattle.moves.proofs.Columns.{Each}
use Rattle.moves.proofs.Checked.{Distinct}

-- the destination of the first ready move is no source
pub ready_is : (ss ds : List ℕ) → first_ready ss ds < length ds → among (get_or ds (first_ready ss ds) 0) ss ≡ false
ready_is ss [] h = absurd (not-suc-le-zero h)
ready_is ss (d ∷ ds) h = go (among d ss) refl (ready_is ss ds)
  where
    go : (b : Bool) → among d ss ≡ b → (first_ready ss ds < length ds → among (get_or ds (first_ready ss ds) 0) ss ≡ false)
        → among (get_or (d ∷ ds) (first_ready ss (d ∷ ds)) 0) ss ≡ false
    go true e ih = rw e (ih (le_of_suc-le-suc (rw e at h)))
    go false e ih = rw e e

-- where none is ready each destination is a source
pub stuck_is : (ss ds : List ℕ) → length ds ≤ first_ready ss ds → Each (λ d. among d ss ≡ true) ds
stuck_is ss [] h i k = absurd (not-suc-le-zero k)
stuck_is ss (d ∷ ds) h i k = go (among d ss) refl (stuck_is ss ds) i k
  where
    go : (b : Bool) → among d ss ≡ b → (length ds ≤ first_ready ss ds → Each (λ x. among x ss ≡ true) ds) → Each (λ x. among x ss ≡ true) (d ∷ ds)
    go true e ih zero l = e
    go true e ih (suc j) l = ih (le_of_suc-le-suc (rw e at h)) j (le_of_suc-le-suc l)
    go false e ih j l = absurd (not-suc-le-zero (rw e at h))

-- a list without the first x
remove : ℕ → List ℕ → List ℕ
remove x [] = []
remove x (y ∷ ys) = pick (eqb x y) ys (y ∷ remove x ys)

remove_length : (x : ℕ) (ys : List ℕ) → among x ys ≡ true → suc (length (remove x ys)) ≡ length ys
unfolding remove
remove_length x [] h = absurd (true≢false (sym h))
remove_length x (y ∷ ys) h = go (eqb x y) refl (remove_length x ys)
  where
    go : (b : Bool) → eqb x y ≡ b → (among x ys ≡ true → suc (length (remove x ys)) ≡ length ys)
        → suc (length (pick (eqb x y) ys (y ∷ remove x ys))) ≡ suc (length ys)
    go true e ih = rw e
    go false e ih = rw e (ap suc (ih (rw e at h)))

remove_other : (x z : ℕ) (ys : List ℕ) → z ≢ x → among z ys ≡ true → among z (remove x ys) ≡ true
unfolding remove
remove_other x z [] n h = h
remove_other x z (y ∷ ys) n h = go (eqb x y) refl (eqb z y) refl (remove_other x z ys n)
  where
    go : (b : Bool) → eqb x y ≡ b → (b' : Bool) → eqb z y ≡ b' → (among z ys ≡ true → among z (remove x ys) ≡ true)
        → among z (pick (eqb x y) ys (y ∷ remove x ys)) ≡ true
    go true e true e' ih = absurd (n (eqb-true z y e' ∙ sym (eqb-true x y e)))
    go true e false e' ih = rw e (rw e' at h)
    go false e true e' ih = rw (e, e')
    go false e false e' ih = rw (e, e') (ih (rw e' at h))

-- distinct numbers that all stand in a list are no more than it has
pigeon : (xs ys : List ℕ) → Distinct xs → Each (λ x. among x ys ≡ true) xs → length xs ≤ length ys
pigeon [] ys d h = zero-le
pigeon (x ∷ xs) ys d h =
    rw (← remove_length x ys (h 0 (omega arith)))
    (suc-le-suc
    (pigeon xs (remove x ys)
    (λ i j p q e. let s : suc i ≡ suc j = d (suc i) (suc j) (omega arith) (omega arith) e in omega arith)
    (λ i p.
    remove_other x (get_or xs i 0) ys
    (λ e. let s : suc i ≡ 0 = d (suc i) 0 (omega arith) (omega arith) e in omega arith)
    (h (suc i) (omega arith)))))

-- with one number more that stands there too, they are fewer
crowded : (sc : ℕ) (ss ds : List ℕ) → Distinct ds → Each (λ d. d ≢ sc) ds → Each (λ d. among d ss ≡ true) ds → among sc ss ≡ true
    → length ds < length ss
crowded sc ss ds d n h e = pigeon (sc ∷ ds) ss dist all
  where
    dist : Distinct (sc ∷ ds)
    dist zero zero p q r = refl
    dist zero (suc j) p q r = absurd (n j (le_of_suc-le-suc q) (sym r))
    dist (suc i) zero p q r = absurd (n i (le_of_suc-le-suc p) r)
    dist (suc i) (suc j) p q r = ap suc (d i j (le_of_suc-le-suc p) (le_of_suc-le-suc q) r)

    all : Each (λ x. among x ss ≡ true) (sc ∷ ds)
    all zero p = e
    all (suc i) p = h i (le_of_suc-le-suc p)

-- as many sources as destinations, none of them ready: what is no destination is no source
pub stuck_apart : (sc : ℕ) (ss ds : List ℕ) → length ss ≡ length ds → Distinct ds → Each (λ d. d ≢ sc) ds → length ds ≤ first_ready ss ds
    → among sc ss ≡ false
stuck_apart sc ss ds long dist n h = go (among sc ss) refl
  where
    go : (b : Bool) → among sc ss ≡ b → b ≡ false
    go true e = let f : length ds < length ss = crowded sc ss ds dist n (stuck_is ss ds h) e in absurd (omega arith)
    go false e = refl
