-- A turn, and then the rest made at once, is all made at once. A state is what each place holds here; nothing is said of ops.
use mathlib.Core.Path.{◌≡◌, refl, sym, ap, ◌∙◌}
use mathlib.Core.Logic.{◌≢◌, ⊎_elim}
use Prim.Native.Nat.{ℕ, ◌-◌, ◌≤◌, ◌<◌}
use mathlib.Core.List.{List}
use mathlib.Core.Bool.{Bool, true, false}
use native.Mathlib.Omega.{arith}
use borrow.Author.Tests.{eqb-true, eqb-false, eq-eqb, ne_eqb}
use lib.ListN.{length, get_or}
use lib.Dec.{eqb}
use Rattle.base.specs.Choice.{pick}
use Rattle.base.specs.Lists.{among}
use Rattle.base.proofs.Numbers.{same?}
use Rattle.moves.specs.Moves.{first_ready, swap_remove, park}
use Rattle.moves.proofs.Columns.{Each, was, swap_length, swap_at, was_lt, swap_each, park-length, park_at, park-each}
use Rattle.moves.proofs.Checked.{Distinct, among-not}
use Rattle.moves.proofs.Stuck.{stuck_apart}

-- t is s after the moves, all at once, except at sc and tmp
pub record Together (sc tmp : ℕ) (ss ds : List ℕ) (s t : ℕ → ℕ) : Type 0 where
  pub arrived : (j : ℕ) → j < length ds → t (get_or ds j 0) ≡ s (get_or ss j 0)
  pub kept : (p : ℕ) → p ≢ sc → p ≢ tmp → Each (λ d. d ≢ p) ds → t p ≡ s p

-- what one move from a to b does, except at tmp
pub record Copied (tmp a b : ℕ) (s t : ℕ → ℕ) : Type 0 where
  pub arrived : t b ≡ s a
  pub kept : (p : ℕ) → p ≢ b → p ≢ tmp → t p ≡ s p

-- lists of moves that can be made: each with its destination, all distinct, none sc or tmp, and no source tmp
pub record Good (sc tmp : ℕ) (ss ds : List ℕ) : Type 0 where
  pub long : length ss ≡ length ds
  pub once : Distinct ds
  pub not_sc : Each (λ p. p ≢ sc) ds
  pub not_tmp : Each (λ p. p ≢ tmp) ds
  pub from_tmp : Each (λ p. p ≢ tmp) ss

-- the place that a number had before is not the one that went, and no two had one
was_ne : (n i j : ℕ) → i < n → j < n - 1 → was n i j ≢ i
was_ne n i j p q = go (eqb j i) refl
  where
    go : (b : Bool) → eqb j i ≡ b → pick b (n - 1) j ≢ i
    go true e = let f : j ≡ i = eqb-true j i e in omega arith
    go false e = eqb-false j i e

was-once : (n i j k : ℕ) → j < n - 1 → k < n - 1 → was n i j ≡ was n i k → j ≡ k
was-once n i j k p q = go (eqb j i) refl (eqb k i) refl
  where
    go : (b : Bool) → eqb j i ≡ b → (b' : Bool) → eqb k i ≡ b' → pick b (n - 1) j ≡ pick b' (n - 1) k → j ≡ k
    go true e true e' r = eqb-true j i e ∙ sym (eqb-true k i e')
    go true e false e' r = omega arith
    go false e true e' r = omega arith
    go false e false e' r = r

-- where number k, which stays, stands after number i of n went
abbrev now_at : ℕ → ℕ → ℕ → ℕ
now_at n i k = pick (eqb k (n - 1)) i k

now_at_lt : (n i k : ℕ) → i < n → k < n → k ≢ i → now_at n i k < n - 1
now_at_lt n i k p q r = go (eqb k (n - 1)) refl
  where
    go : (b : Bool) → eqb k (n - 1) ≡ b → pick b i k < n - 1
    go true e = let f : k ≡ n - 1 = eqb-true k (n - 1) e in omega arith
    go false e = let f : k ≢ n - 1 = eqb-false k (n - 1) e in omega arith

was_now_at : (n i k : ℕ) → k ≢ i → was n i (now_at n i k) ≡ k
was_now_at n i k r = go (eqb k (n - 1)) refl
  where
    go : (b : Bool) → eqb k (n - 1) ≡ b → pick (eqb (pick b i k) i) (n - 1) (pick b i k) ≡ k
    go true e = rw (eq-eqb i i refl) (sym (eqb-true k (n - 1) e))
    go false e = rw (ne_eqb k i r)

module _ (sc tmp : ℕ) (ss ds : List ℕ) (good : Good sc tmp ss ds) where
  abbrev n : ℕ
  n = length ds

  -- the sources after number i went
  source_at : (i j : ℕ) → j < n - 1 → get_or (swap_remove ss i) j 0 ≡ get_or ss (was n i j) 0
  source_at i j q = rw (← good.long) (swap_at ss i j (rw good.long q))

  pub ready_good : (i : ℕ) → Good sc tmp (swap_remove ss i) (swap_remove ds i)
  ready_good i =
      record {
        long = rw (swap_length ss i, swap_length ds i, good.long);
        once = λ j k q r e.
            let q' : j < n - 1 = (rw swap_length at q) in
            let r' : k < n - 1 = (rw swap_length at r) in
            was-once n i j k q' r'
            (good.once (was n i j) (was n i k) (was_lt n i j q') (was_lt n i k r') (sym (swap_at ds i j q') ∙ e ∙ swap_at ds i k r'));
        not_sc = swap_each (λ d. d ≢ sc) ds i good.not_sc;
        not_tmp = swap_each (λ d. d ≢ tmp) ds i good.not_tmp;
        from_tmp = swap_each (λ d. d ≢ tmp) ss i good.from_tmp;
      }

  -- the destination of the move that went is no longer one
  gone : (i : ℕ) → i < n → Each (λ d. d ≢ get_or ds i 0) (swap_remove ds i)
  gone i p j q e =
      let q' : j < n - 1 = (rw swap_length at q) in
      was_ne n i j p q' (good.once (was n i j) i (was_lt n i j q') p (sym (swap_at ds i j q') ∙ e))

  pub ready_step : (s u t : ℕ → ℕ) (i : ℕ) → i < n → among (get_or ds i 0) ss ≡ false
      → Copied tmp (get_or ss i 0) (get_or ds i 0) s u → Together sc tmp (swap_remove ss i) (swap_remove ds i) u t → Together sc tmp ss ds s t
  ready_step s u t i p e c r = record { arrived = λ j q. ⊎_elim (at_i j q) (at_other j q) (same? j i); kept = other }
    where
      at_i : (j : ℕ) → j < n → j ≡ i → t (get_or ds j 0) ≡ s (get_or ss j 0)
      at_i j q f = rw f (r.kept (get_or ds i 0) (good.not_sc i p) (good.not_tmp i p) (gone i p) ∙ c.arrived)

      at_other : (j : ℕ) → j < n → j ≢ i → t (get_or ds j 0) ≡ s (get_or ss j 0)
      at_other j q f =
          let k : ℕ = now_at n i j in
          let kl : k < n - 1 = now_at_lt n i j p q f in
          let w : was n i k ≡ j = was_now_at n i j f in
          let h : t (get_or ds (was n i k) 0) ≡ u (get_or ss (was n i k) 0) =
          (rw (swap_at ds i k kl, source_at i k kl) at (r.arrived k (rw swap_length kl))) in
          (rw w at h) ∙ c.kept (get_or ss j 0) (among-not (get_or ds i 0) ss e j (rw good.long q)) (good.from_tmp j (rw good.long q))

      other : (x : ℕ) → x ≢ sc → x ≢ tmp → Each (λ d. d ≢ x) ds → t x ≡ s x
      other x a b f = r.kept x a b (swap_each (λ d. d ≢ x) ds i f) ∙ c.kept x (λ (g : x ≡ get_or ds i 0). f i p (sym g)) b

  pub park_good : sc ≢ tmp → Good sc tmp (park (get_or ss 0 0) sc ss) ds
  park_good apart =
      record {
        long = park-length (get_or ss 0 0) sc ss ∙ good.long;
        once = good.once;
        not_sc = good.not_sc;
        not_tmp = good.not_tmp;
        from_tmp = park-each (λ p. p ≢ tmp) (get_or ss 0 0) sc ss apart good.from_tmp;
      }

  -- where none is ready, sc is no source
  pub stuck_sc : length ds ≤ first_ready ss ds → among sc ss ≡ false
  stuck_sc h = stuck_apart sc ss ds good.long good.once good.not_sc h

  pub park-step : (s u t : ℕ → ℕ) → length ds ≤ first_ready ss ds
      → Copied tmp (get_or ss 0 0) sc s u → Together sc tmp (park (get_or ss 0 0) sc ss) ds u t → Together sc tmp ss ds s t
  park-step s u t h c r =
      record {
        arrived = λ j q.
            r.arrived j q
            ∙ rw (park_at (get_or ss 0 0) sc ss j (rw good.long q)) (go j (rw good.long q) (eqb (get_or ss j 0) (get_or ss 0 0)) refl);
        kept = λ x a b f. r.kept x a b f ∙ c.kept x a b;
      }
    where
      go : (j : ℕ) → j < length ss → (b : Bool) → eqb (get_or ss j 0) (get_or ss 0 0) ≡ b → u (pick b sc (get_or ss j 0)) ≡ s (get_or ss j 0)
      go j q true e = c.arrived ∙ ap s (sym (eqb-true (get_or ss j 0) (get_or ss 0 0) e))
      go j q false e = c.kept (get_or ss j 0) (among-not sc ss (stuck_sc h) j q) (good.from_tmp j q)
