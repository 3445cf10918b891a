-- A test that each number of a list has to pass, as `all_ops`, `ops_within`, `all_within` and `starts_within` ask.
use mathlib.Core.Path.{◌≡◌, refl, sym, ◌∙◌}
use mathlib.Core.Bool.{Bool, true, false, not, ◌&&◌}
use mathlib.Core.List.{List, [], ◌∷◌, map}
use Prim.Native.Nat.{ℕ, zero, suc, ◌<◌}
use native.Mathlib.Omega.{arith}
use lib.Dec.{leb}
use lib.ListN.{length, get_or}
use Rattle.std.specs.List.{list_all}
use Rattle.base.specs.Choice.{pick}
use Rattle.op.specs.Words.{parts, allowed}
use Rattle.compact.specs.Compaction.{is_nop, kept_ops}
use Rattle.compact.specs.Entry.{all_ops, ops_within, all_within, starts_within}
use Rattle.compact.specs.Steps.{op_within, start_within}

-- f asks that each passes t
pub record Every (f : List ℕ → Bool) (t : ℕ → Bool) : Type 0 where
  pub none : f [] ≡ true
  pub one : (x : ℕ) (xs : List ℕ) → f (x ∷ xs) ≡ pick (t x) (f xs) false

abbrev pub is_op : ℕ → Bool
is_op x = allowed (parts x)

abbrev pub within : ℕ → ℕ → Bool
within used pc = leb pc used

abbrev pub is_kept : ℕ → Bool
is_kept x = not (is_nop x)

abbrev pub all_kept : List ℕ → Bool
all_kept [] = true
all_kept (x ∷ xs) = pick (is_kept x) (all_kept xs) false

pub words : Every all_ops is_op
words = record { none = refl; one = λ x xs. refl }

pub ops_in : (used : ℕ) → Every (ops_within used) (op_within used)
ops_in used = record { none = refl; one = λ x xs. refl }

pub targets_in : (used : ℕ) → Every (all_within used) (within used)
targets_in used = record { none = refl; one = λ x xs. refl }

pub starts_in : (used : ℕ) → Every (starts_within used) (start_within used)
starts_in used = record { none = refl; one = λ x xs. refl }

pub stayed : Every all_kept is_kept
stayed = record { none = refl; one = λ x xs. refl }

-- a test that all pass
pub anything : Every (λ xs. true) (λ x. true)
anything = record { none = refl; one = λ x xs. refl }

-- true is not false
pub not-both : true ≡ false → ⊥
not-both e = let w : ◌≡◌ {A = ℕ} 0 1 = cc in omega arith

-- both of two tests that have to pass
pub both-pass : (p q : Bool) → pick p q false ≡ true → (p ≡ true) × (q ≡ true)
both-pass true q e = (refl, e)
both-pass false q e = absurd (not-both (sym e))

module _ {f : List ℕ → Bool} {t : ℕ → Bool} (e : Every f t) where
  -- the library's word for it
  pub every_is : (xs : List ℕ) → list_all t xs ≡ f xs
  every_is [] = sym e.none
  every_is (x ∷ xs) = rw (e.one x xs, every_is xs) (go (t x)) where
    go : (p : Bool) → (p && f xs) ≡ pick p (f xs) false
    go true = refl
    go false = refl

  -- the first and the rest
  pub every-parts : (x : ℕ) (xs : List ℕ) → f (x ∷ xs) ≡ true → (t x ≡ true) × (f xs ≡ true)
  every-parts x xs h = both-pass (t x) (f xs) (sym (e.one x xs) ∙ h)

  pub every_cons : (x : ℕ) (xs : List ℕ) → t x ≡ true → f xs ≡ true → f (x ∷ xs) ≡ true
  every_cons x xs p h = rw (e.one x xs, p) h

  -- at each place
  pub every_at : (xs : List ℕ) (k : ℕ) → f xs ≡ true → k < length xs → t (get_or xs k 0) ≡ true
  every_at [] k h l = absurd (omega arith)
  every_at (x ∷ xs) zero h l = (every-parts x xs h).0
  every_at (x ∷ xs) (suc k) h l = every_at xs k (every-parts x xs h).1 (omega arith)

  pub every-from : (xs : List ℕ) → ((k : ℕ) → k < length xs → t (get_or xs k 0) ≡ true) → f xs ≡ true
  every-from [] h = e.none
  every-from (x ∷ xs) h = every_cons x xs (h zero (omega arith)) (every-from xs (λ k l. h (suc k) (omega arith)))

  -- of what stays
  pub every-kept : (xs : List ℕ) → f xs ≡ true → f (kept_ops xs) ≡ true
  unfolding kept_ops
  every-kept [] h = e.none
  every-kept (x ∷ xs) h =
      let p = every-parts x xs h in
      go (is_nop x) (every-kept xs p.1) (every_cons x (kept_ops xs) p.0 (every-kept xs p.1)) where
        go : (b : Bool) → f (kept_ops xs) ≡ true → f (x ∷ kept_ops xs) ≡ true → f (pick b (kept_ops xs) (x ∷ kept_ops xs)) ≡ true
        go true a d = a
        go false a d = d

  -- two maps that agree where the test passes
  pub maps_agree : (g h : ℕ → ℕ) → ((x : ℕ) → t x ≡ true → g x ≡ h x) → (xs : List ℕ) → f xs ≡ true → map g xs ≡ map h xs
  maps_agree g h a [] p = refl
  maps_agree g h a (x ∷ xs) p =
      let q = every-parts x xs p in
      rw (a x q.0, maps_agree g h a xs q.1)

  -- a map into what passes another test
  pub every_map : {f' : List ℕ → Bool} {t' : ℕ → Bool} → Every f' t' → (g : ℕ → ℕ) → ((x : ℕ) → t x ≡ true → t' (g x) ≡ true)
      → (xs : List ℕ) → f xs ≡ true → f' (map g xs) ≡ true
  every_map e' g a [] p = e'.none
  every_map {f'} {t'} e' g a (x ∷ xs) p =
      let q = every-parts x xs p in
      rw (e'.one (g x) (map g xs), a x q.0) (every_map e' g a xs q.1)

pub words_are : (xs : List ℕ) → list_all is_op xs ≡ all_ops xs
words_are xs = every_is words xs
