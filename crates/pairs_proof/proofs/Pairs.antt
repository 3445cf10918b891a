-- To drop the equal pairs of a list of moves changes nothing: what is left does what the whole list is to do.
use mathlib.Core.Path.{◌≡◌, refl, sym, ap, ◌∙◌}
use mathlib.Core.Logic.{◌≢◌, ⊎_elim}
use Prim.Native.Nat.{ℕ, zero, suc, ◌+◌, ◌-◌, ◌≤◌, ◌<◌, zero-le, suc-le-suc}
use mathlib.Core.List.{List, [], ◌∷◌}
use mathlib.Core.Bool.{Bool, true, false}
use native.Mathlib.Nat.{not-suc-le-zero, le_of_suc-le-suc}
use native.Mathlib.Omega.{arith}
use borrow.Author.Tests.{eq-eqb, ne_eqb, ltb-true, ltb-false}
use lib.ListN.{length, get_or}
use lib.Dec.{eqb, ltb}
use Rattle.base.specs.Choice.{pick}
use Rattle.base.specs.Lists.{among, distinct}
use Rattle.base.proofs.Numbers.{same?}
use Rattle.place.specs.Registers.{scratch_of, tmp_of}
use Rattle.place.specs.Places.{slots_from}
use Rattle.machine.specs.Machine.{State, World, run_words, holds}
use Rattle.moves.specs.Moves.{move_words}
use Rattle.moves.specs.AtOnce.{place_ok, all_ok, moves_ok, MovedAtOnce}
use Rattle.moves.proofs.Columns.{Each}
use Rattle.moves.proofs.Checked.{Distinct, Checked, among-not, moves_checked, place_apart}
use Rattle.moves.proofs.Theorem.{moves_theorem}
use Rattle.edges.specs.Pairs.{differing_sources, differing_destinations}

-- ---- back from what is said of a column to its test
pub not-among : (x : ℕ) (l : List ℕ) → Each (λ y. y ≢ x) l → among x l ≡ false
not-among x [] a = refl
not-among x (y ∷ l) a = rw (ne_eqb x y (λ e. a 0 (suc-le-suc zero-le) (sym e))) (not-among x l (λ j h. a (suc j) (suc-le-suc h)))

each_ok : (n slots : ℕ) (l : List ℕ) → Each (λ p. place_ok n slots p ≡ true) l → all_ok n slots l ≡ true
each_ok n slots [] a = refl
each_ok n slots (p ∷ l) a = rw (a 0 (suc-le-suc zero-le)) (each_ok n slots l (λ j h. a (suc j) (suc-le-suc h)))

distinct_tail : (d : ℕ) (l : List ℕ) → Distinct (d ∷ l) → Distinct l
distinct_tail d l h i j p q e = let f : suc i ≡ suc j = h (suc i) (suc j) (suc-le-suc p) (suc-le-suc q) e in omega arith

distinct_head : (d : ℕ) (l : List ℕ) → Distinct (d ∷ l) → Each (λ x. x ≢ d) l
distinct_head d l h j p e = let f : suc j ≡ 0 = h (suc j) 0 (suc-le-suc p) (suc-le-suc zero-le) e in omega arith

once-distinct : (l : List ℕ) → Distinct l → distinct l ≡ true
once-distinct [] h = refl
once-distinct (x ∷ l) h = rw (not-among x l (distinct_head x l h)) (once-distinct l (distinct_tail x l h))

pub checked_moves : (n slots : ℕ) (ss ds : List ℕ) → Checked n slots ss ds → moves_ok n slots ss ds ≡ true
checked_moves n slots ss ds c =
    rw (each_ok n slots ss c.sources, each_ok n slots ds c.destinations) (once-distinct ds c.once)

-- ---- the pairs that are left
each_cons : (P : ℕ → Type 0) (d : ℕ) (l : List ℕ) → P d → Each P l → Each P (d ∷ l)
each_cons P d l p a zero h = p
each_cons P d l p a (suc j) h = a j (le_of_suc-le-suc h)

each_tail : (P : ℕ → Type 0) (d : ℕ) (l : List ℕ) → Each P (d ∷ l) → Each P l
each_tail P d l a j h = a (suc j) (suc-le-suc h)

-- as many sources as destinations
left_long : (ss ds : List ℕ) → length (differing_sources ss ds) ≡ length (differing_destinations ss ds)
left_long [] ds = refl
left_long (s ∷ ss) [] = refl
left_long (s ∷ ss) (d ∷ ds) = go (eqb s d) (left_long ss ds)
  where
    go : (b : Bool) → length (differing_sources ss ds) ≡ length (differing_destinations ss ds)
        → length (pick b (differing_sources ss ds) (s ∷ differing_sources ss ds))
        ≡ length (pick b (differing_destinations ss ds) (d ∷ differing_destinations ss ds))
    go true ih = ih
    go false ih = ap suc ih

-- what holds of each holds of those that are left
left_sources : (P : ℕ → Type 0) (ss ds : List ℕ) → Each P ss → Each P (differing_sources ss ds)
left_sources P [] ds a = λ j h. absurd (not-suc-le-zero h)
left_sources P (s ∷ ss) [] a = λ j h. absurd (not-suc-le-zero h)
left_sources P (s ∷ ss) (d ∷ ds) a = go (eqb s d) (left_sources P ss ds (each_tail P s ss a))
  where
    go : (b : Bool) → Each P (differing_sources ss ds) → Each P (pick b (differing_sources ss ds) (s ∷ differing_sources ss ds))
    go true ih = ih
    go false ih = each_cons P s (differing_sources ss ds) (a 0 (suc-le-suc zero-le)) ih

left_destinations : (P : ℕ → Type 0) (ss ds : List ℕ) → Each P ds → Each P (differing_destinations ss ds)
left_destinations P [] ds a = λ j h. absurd (not-suc-le-zero h)
left_destinations P (s ∷ ss) [] a = λ j h. absurd (not-suc-le-zero h)
left_destinations P (s ∷ ss) (d ∷ ds) a = go (eqb s d) (left_destinations P ss ds (each_tail P d ds a))
  where
    go : (b : Bool) → Each P (differing_destinations ss ds) → Each P (pick b (differing_destinations ss ds) (d ∷ differing_destinations ss ds))
    go true ih = ih
    go false ih = each_cons P d (differing_destinations ss ds) (a 0 (suc-le-suc zero-le)) ih

left-once : (ss ds : List ℕ) → Distinct ds → Distinct (differing_destinations ss ds)
left-once [] ds h = λ i j p q e. absurd (not-suc-le-zero p)
left-once (s ∷ ss) [] h = λ i j p q e. absurd (not-suc-le-zero p)
left-once (s ∷ ss) (d ∷ ds) h = go (eqb s d) (left-once ss ds (distinct_tail d ds h))
  where
    others : Each (λ x. x ≢ d) (differing_destinations ss ds)
    others = left_destinations (λ x. x ≢ d) ss ds (distinct_head d ds h)

    with_first : Distinct (differing_destinations ss ds) → Distinct (d ∷ differing_destinations ss ds)
    with_first ih zero zero p q e = refl
    with_first ih zero (suc j) p q e = absurd (others j (le_of_suc-le-suc q) (sym e))
    with_first ih (suc i) zero p q e = absurd (others i (le_of_suc-le-suc p) e)
    with_first ih (suc i) (suc j) p q e = ap suc (ih i j (le_of_suc-le-suc p) (le_of_suc-le-suc q) e)

    go : (b : Bool) → Distinct (differing_destinations ss ds) → Distinct (pick b (differing_destinations ss ds) (d ∷ differing_destinations ss ds))
    go true ih = ih
    go false ih = with_first ih

-- a list of moves that can be made can be made without its equal pairs
left_checked : (n slots : ℕ) (ss ds : List ℕ) → Checked n slots ss ds
    → Checked n slots (differing_sources ss ds) (differing_destinations ss ds)
left_checked n slots ss ds c =
    record {
      sources = left_sources (λ p. place_ok n slots p ≡ true) ss ds c.sources;
      destinations = left_destinations (λ p. place_ok n slots p ≡ true) ss ds c.destinations;
      once = left-once ss ds c.once;
    }

-- where the pair j, which differs, stands among those that are left
record Standing (ss ds : List ℕ) (j : ℕ) : Type 0 where
  pub at : ℕ
  pub within : at < length (differing_destinations ss ds)
  pub destination : get_or (differing_destinations ss ds) at 0 ≡ get_or ds j 0
  pub source : get_or (differing_sources ss ds) at 0 ≡ get_or ss j 0

stands : (ss ds : List ℕ) (j : ℕ) → length ss ≡ length ds → j < length ds → get_or ss j 0 ≢ get_or ds j 0 → Standing ss ds j
stands [] ds j l h n = absurd (omega arith)
stands (s ∷ ss) [] j l h n = absurd (not-suc-le-zero h)
stands (s ∷ ss) (d ∷ ds) zero l h n =
    let e : eqb s d ≡ false = ne_eqb s d n in
    record { at = 0; within = rw e (suc-le-suc zero-le); destination = rw e; source = rw e }
stands (s ∷ ss) (d ∷ ds) (suc j) l h n = go (eqb s d) refl (stands ss ds j (omega arith) (le_of_suc-le-suc h) n)
  where
    go : (b : Bool) → eqb s d ≡ b → Standing ss ds j → Standing (s ∷ ss) (d ∷ ds) (suc j)
    go true e ih = record { at = ih.at; within = rw e ih.within; destination = rw e ih.destination; source = rw e ih.source }
    go false e ih =
        record { at = suc ih.at; within = rw e (suc-le-suc ih.within); destination = rw e ih.destination; source = rw e ih.source }

-- the destination of an equal pair is none of those that are left
gone : (ss ds : List ℕ) (j : ℕ) → j < length ds → Distinct ds → get_or ss j 0 ≡ get_or ds j 0
    → Each (λ x. x ≢ get_or ds j 0) (differing_destinations ss ds)
gone [] ds j h u e = λ i q. absurd (not-suc-le-zero q)
gone (s ∷ ss) [] j h u e = λ i q. absurd (not-suc-le-zero q)
gone (s ∷ ss) (d ∷ ds) zero h u e = rw (eq-eqb s d e) (left_destinations (λ x. x ≢ d) ss ds (distinct_head d ds u))
gone (s ∷ ss) (d ∷ ds) (suc j) h u e = go (eqb s d) (gone ss ds j (le_of_suc-le-suc h) (distinct_tail d ds u) e)
  where
    go : (b : Bool) → Each (λ x. x ≢ get_or ds j 0) (differing_destinations ss ds)
        → Each (λ x. x ≢ get_or ds j 0) (pick b (differing_destinations ss ds) (d ∷ differing_destinations ss ds))
    go true ih = ih
    go false ih =
        each_cons (λ x. x ≢ get_or ds j 0) d (differing_destinations ss ds)
        (λ (f : d ≡ get_or ds j 0). distinct_head d ds u j (le_of_suc-le-suc h) (sym f)) ih

-- ---- the theorem on moves, for a list whose equal pairs are dropped
-- what is no destination, and not SCRATCH or TMP, holds what it held
place_kept : (n : ℕ) (ss ds : List ℕ) (st st' : State) → MovedAtOnce n ss ds st st' → (p : ℕ) → p ≢ scratch_of n → p ≢ tmp_of n
    → among p ds ≡ false → holds st' p ≡ holds st p
place_kept n ss ds st st' m p a b c = go (ltb p slots_from) refl
  where
    go : (t : Bool) → ltb p slots_from ≡ t
        → pick t (st'.regs p) (get_or st'.stack (p - slots_from) 0) ≡ pick t (st.regs p) (get_or st.stack (p - slots_from) 0)
    go true e = m.register_kept p (ltb-true p slots_from e) a b c
    go false e =
        let h : slots_from ≤ p = ltb-false p slots_from e in
        let f : slots_from + (p - slots_from) ≡ p = omega arith in
        m.slot_kept (p - slots_from) (rw f c)

module _ (n : ℕ) (lo : 22 ≤ n) (hi : n ≤ 64) where
  pub pairs_at_once : (w : World) (slots : ℕ) (ss ds : List ℕ) (st : State) → length ss ≡ length ds → moves_ok n slots ss ds ≡ true
      → slots ≤ length st.stack → slots ≤ 256
      → MovedAtOnce n ss ds st (run_words w (move_words n (differing_sources ss ds) (differing_destinations ss ds)) st)
  pairs_at_once w slots ss ds st long ok high most =
      record {
        arrived = λ i h. ⊎_elim (equal i h) (differing i h) (same? (get_or ss i 0) (get_or ds i 0));
        register_kept = λ r h a b c. m.register_kept r h a b (still_none r c);
        slot_kept = λ k c. m.slot_kept k (still_none (slots_from + k) c);
        height_kept = m.height_kept;
      }
    where
      st' : State
      st' = run_words w (move_words n (differing_sources ss ds) (differing_destinations ss ds)) st

      c : Checked n slots ss ds
      c = moves_checked n slots ss ds ok

      m : MovedAtOnce n (differing_sources ss ds) (differing_destinations ss ds) st st'
      m =
          (moves_theorem n lo hi).at_once w slots (differing_sources ss ds) (differing_destinations ss ds) st (left_long ss ds)
          (checked_moves n slots (differing_sources ss ds) (differing_destinations ss ds) (left_checked n slots ss ds c)) high most

      still_none : (x : ℕ) → among x ds ≡ false → among x (differing_destinations ss ds) ≡ false
      still_none x e = not-among x (differing_destinations ss ds) (left_destinations (λ y. y ≢ x) ss ds (among-not x ds e))

      equal : (i : ℕ) → i < length ds → get_or ss i 0 ≡ get_or ds i 0 → holds st' (get_or ds i 0) ≡ holds st (get_or ss i 0)
      equal i h e =
          place_kept n (differing_sources ss ds) (differing_destinations ss ds) st st' m (get_or ds i 0)
          (place_apart n slots (get_or ds i 0) (scratch_of n) (c.destinations i h) (omega arith) (omega arith))
          (place_apart n slots (get_or ds i 0) (tmp_of n) (c.destinations i h) (omega arith) (omega arith))
          (not-among (get_or ds i 0) (differing_destinations ss ds) (gone ss ds i h c.once e))
          ∙ ap (holds st) (sym e)

      differing : (i : ℕ) → i < length ds → get_or ss i 0 ≢ get_or ds i 0 → holds st' (get_or ds i 0) ≡ holds st (get_or ss i 0)
      differing i h e =
          let s : Standing ss ds i = stands ss ds i long h e in
          ap (holds st') (sym s.destination) ∙ m.arrived s.at s.within ∙ ap (holds st) s.source
