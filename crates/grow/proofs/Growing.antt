-- The laws of Grown and Grows: what a push and a store do, how they join, how a loop goes, and what the buffer is in the end.
use mathlib.Core.Path.{◌≡◌, refl, sym, ap, ◌∙◌}
use mathlib.Core.Logic.{⊎_elim}
use mathlib.Core.Bool.{true, false}
use Prim.Native.Nat.{ℕ, ◌+◌, ◌≤◌, ◌<◌, min}
use mathlib.Core.List.{List, [], ◌∷◌, ◌++◌}
use native.Mathlib.Omega.{arith}
use borrow.Author.Tests.{ltb-true, ltb-false, lt-ltb, le-ltb}
use lib.ListN.{length, take, drop, set, length-append, length-set, length-take}
use lib.Seq.{sets, set_out, set-append_left, take-set-le, take-set-lt, length-sets, length-take-le, take_at}
use Rattle.base.proofs.Numbers.{lt?}
use Rattle.base.proofs.Lists.{sets-take, sets-own, sets_fits, sets_keeps}
use Rattle.base.proofs.Pens.{one_more, none_more}
use Rattle.grow.specs.declared.End.{End}
use Rattle.grow.specs.Growing.{Grown, Grows}

-- two ends with the same fields are one
pub ends_equal : (e e' : End) → e.at ≡ e'.at → e.room ≡ e'.room → e.full ≡ e'.full → e ≡ e'
ends_equal e e' a b c =
    let z : ◌≡◌ {A = End} (record { at = e.at; room = e.room; full = e.full }) (record { at = e'.at; room = e'.room; full = e'.full }) =
    cc in
    z

module _ {A : Type 0} where
  -- a number that finds room
  grown_more : {buf₀ l buf : List A} {e : End} (x : A) → Grown buf₀ l buf e → e.at < e.room
      → Grown buf₀ (l ++ (x ∷ [])) (set buf e.at x) (record { at = e.at + 1; room = e.room; full = e.full })
  grown_more {buf₀} {l} {buf} {e} x g h =
      let n : length (l ++ (x ∷ [])) ≡ length l + 1 = length-append l (x ∷ []) in
      record {
        lent = g.lent;
        is = rw g.is (one_more buf₀ l e.room e.at x g.at_is h);
        at_is = omega (arith, g.at_is);
        full_is = g.full_is
            ∙ le-ltb e.room (length l) (omega (arith, g.at_is))
            ∙ sym (le-ltb e.room (length (l ++ (x ∷ []))) (omega (arith, g.at_is)));
      }

  -- a number that finds none
  grown_over : {buf₀ l buf : List A} {e : End} (x : A) → Grown buf₀ l buf e → e.room ≤ e.at
      → Grown buf₀ (l ++ (x ∷ [])) buf (record { at = e.at; room = e.room; full = true })
  grown_over {buf₀} {l} {buf} {e} x g h =
      let n : length (l ++ (x ∷ [])) ≡ length l + 1 = length-append l (x ∷ []) in
      record {
        lent = g.lent;
        is = g.is ∙ ap (sets buf₀ 0) (none_more l e.room e.at x g.at_is h);
        at_is = omega (arith, g.at_is);
        full_is = sym (lt-ltb e.room (length (l ++ (x ∷ []))) (omega (arith, g.at_is)));
      }

  -- a store where the list is and there is room
  store_in : (a l : List A) (n i : ℕ) (x : A) → n ≤ length a → i < min n (length l) → set (sets a 0 (take n l)) i x ≡ sets a 0 (take n (set l i x))
  store_in a l n i x h k =
      let t : length (take n l) ≡ min n (length l) = length-take n l in
      let s : length (set l i x) ≡ length l = length-set l i x in
      rw (sets-take n a l h, sets-take n a (set l i x) h, s, take-set-lt n l i x (omega arith))
      (set-append_left (take n l) (drop (min n (length l)) a) i x (omega arith))

  -- a store behind the list is none, and behind the room none that is kept
  store_out : (l : List A) (n i : ℕ) (x : A) → min n (length l) ≤ i → take n l ≡ take n (set l i x)
  store_out l n i x h =
      ⊎_elim
      (λ (k : i < length l). sym (take-set-le n l i x (omega arith)))
      (λ (k : length l ≤ i). ap (take n) (sym (set_out l i x k)))
      (lt? i (length l))

  grown_set : {buf₀ l buf buf' : List A} {e : End} (i : ℕ) (x : A) → Grown buf₀ l buf e → buf' ≡ sets buf₀ 0 (take e.room (set l i x))
      → Grown buf₀ (set l i x) buf' e
  grown_set {buf₀} {l} {buf} {buf'} {e} i x g s =
      let n : length (set l i x) ≡ length l = length-set l i x in
      record { lent = g.lent; is = s; at_is = rw n g.at_is; full_is = rw n g.full_is }

  -- what a push does where there is room
  pub grows_more : (x : A) (e : End) (b b' : List A) → e.at < e.room → b' ≡ set b e.at x
      → Grows (λ l. l ++ (x ∷ [])) b e b' (record { at = e.at + 1; room = e.room; full = e.full })
  grows_more x e b b' h s = record { room_kept = refl; go = λ buf₀ l g. rw s (grown_more x g h) }

  -- and where there is none
  pub grows_over : (x : A) (e : End) (b : List A) → e.room ≤ e.at
      → Grows (λ l. l ++ (x ∷ [])) b e b (record { at = e.at; room = e.room; full = true })
  grows_over x e b h = record { room_kept = refl; go = λ buf₀ l g. grown_over x g h }

  -- what a store before the end does
  pub grows_store : (i : ℕ) (x : A) (e : End) (b b' : List A) → i < e.at → b' ≡ set b i x → Grows (λ l. set l i x) b e b' e
  grows_store i x e b b' h s =
      record {
        room_kept = refl;
        go = λ buf₀ l g.
            grown_set i x g
            (s ∙ rw g.is (store_in buf₀ l e.room i x g.lent (omega (arith, g.at_is))));
      }

  -- from the end on none is done
  pub grows_past : (i : ℕ) (x : A) (e : End) (b : List A) → e.at ≤ i → Grows (λ l. set l i x) b e b e
  grows_past i x e b h =
      record {
        room_kept = refl;
        go = λ buf₀ l g. grown_set i x g (g.is ∙ ap (sets buf₀ 0) (store_out l e.room i x (omega (arith, g.at_is))));
      }

  -- nothing is done
  pub none : (b : List A) (e : End) → Grows (λ l. l) b e b e
  none b e = record { room_kept = refl; go = λ buf₀ l g. g }

  -- one after the other
  pub then : {f g : List A → List A} {b b' b'' : List A} {e e' e'' : End} → Grows f b e b' e' → Grows g b' e' b'' e'' → Grows (λ l. g (f l)) b e b'' e''
  then x y =
      record { room_kept = y.room_kept ∙ x.room_kept; go = λ buf₀ l h. y.go buf₀ _ (x.go buf₀ l h) }

  -- the same by another name
  pub renamed : {f g : List A → List A} {b b' : List A} {e e' : End} → Grows f b e b' e' → ((l : List A) → f l ≡ g l) → Grows g b e b' e'
  renamed x s = record { room_kept = x.room_kept; go = λ buf₀ l h. rw (s l) at (x.go buf₀ l h) }

  -- A loop: what is left to do, from the list that is held now, gives the whole.
  pub record Left (rest whole : List A → List A) (b : List A) (e : End) (b' : List A) (e' : End) : Type 0 where
    pub room_kept : e'.room ≡ e.room
    pub so : (buf₀ l : List A) → Grown buf₀ l b e → (l' : List A) × (Grown buf₀ l' b' e' × (rest l' ≡ whole l))

  -- before the first turn what is left is the whole by another name
  pub left_as : {rest whole : List A → List A} {b : List A} {e : End} → ((l : List A) → rest l ≡ whole l) → Left rest whole b e b e
  left_as s = record { room_kept = refl; so = λ buf₀ l g. (l, (g, s l)) }

  -- a turn does a step of what is left
  pub left-turn : {rest whole step : List A → List A} {b b' b'' : List A} {e e' e'' : End} (rest' : List A → List A)
      → Left rest whole b e b' e' → Grows step b' e' b'' e'' → ((l : List A) → rest l ≡ rest' (step l)) → Left rest' whole b e b'' e''
  left-turn {step} rest' h s t =
      record {
        room_kept = s.room_kept ∙ h.room_kept;
        so = λ buf₀ l g.
            let r = h.so buf₀ l g in
            (step r.0, (s.go buf₀ r.0 r.1.0, sym (t r.0) ∙ r.1.1));
      }

  -- where nothing is left the whole is done
  pub left_end : {rest whole : List A → List A} {b b' : List A} {e e' : End} → Left rest whole b e b' e' → ((l : List A) → rest l ≡ l)
      → Grows whole b e b' e'
  left_end h s =
      record {
        room_kept = h.room_kept;
        go = λ buf₀ l g. let r = h.so buf₀ l g in rw (sym (s r.0) ∙ r.1.1) at r.1.0;
      }

  -- before the first number the buffer holds what stands in it up to `used`
  pub grown_start : (buf : List A) (used room : ℕ) → used ≤ room → room ≤ length buf
      → Grown buf (take used buf) buf (record { at = used; room = room; full = false })
  grown_start buf used room h k =
      let n : length (take used buf) ≡ used = length-take-le used buf (omega arith) in
      record {
        lent = k;
        is = sym (sets-own room used buf h k);
        at_is = omega arith;
        full_is = sym (le-ltb room (length (take used buf)) (omega arith));
      }

  -- an end that is not full: the buffer starts with the whole list and is else as it was
  pub record Done (buf₀ l buf : List A) (e : End) : Type 0 where
    pub fits : length l ≤ e.room
    pub at_is : e.at ≡ length l
    pub is : buf ≡ l ++ drop (length l) buf₀

  pub grown_done : {buf₀ l buf : List A} {e : End} → Grown buf₀ l buf e → e.full ≡ false → Done buf₀ l buf e
  grown_done {buf₀} {l} {buf} {e} g f =
      let h : length l ≤ e.room = ltb-false e.room (length l) (sym g.full_is ∙ f) in
      record { fits = h; at_is = omega (arith, g.at_is); is = g.is ∙ sets_fits e.room buf₀ l g.lent h }

  -- an end that is full had more numbers than room
  pub grown_full : {buf₀ l buf : List A} {e : End} → Grown buf₀ l buf e → e.full ≡ true → e.room < length l
  grown_full {l} {e} g f = ltb-true e.room (length l) (sym g.full_is ∙ f)

  -- what stands before the end is the list, where all of it found room
  pub grown_read : {buf₀ l buf : List A} {e : End} → Grown buf₀ l buf e → length l ≤ e.room → take (min e.at (length buf)) buf ≡ l
  grown_read {buf₀} {l} {buf} {e} g h =
      let d : buf ≡ l ++ drop (length l) buf₀ = g.is ∙ sets_fits e.room buf₀ l g.lent h in
      let n : length buf ≡ length buf₀ = ap length g.is ∙ simp length-sets in
      let m : min e.at (length buf) ≡ length l = omega (arith, g.at_is, g.lent) in
      rw (m, d) (take_at l (drop (length l) buf₀) (length l) refl)

  -- lists that both have more numbers than room and start alike are held alike
  pub grown_past : {buf₀ l buf : List A} {e : End} (l' : List A) → Grown buf₀ l buf e → e.room < length l → e.room < length l'
      → take e.room l ≡ take e.room l' → Grown buf₀ l' buf e
  grown_past {buf₀} {l} {buf} {e} l' g h k s =
      record {
        lent = g.lent;
        is = g.is ∙ ap (sets buf₀ 0) s;
        at_is = omega (arith, g.at_is);
        full_is = g.full_is ∙ lt-ltb e.room (length l) h ∙ sym (lt-ltb e.room (length l') k);
      }

  -- the buffer keeps its length
  pub grown_lengths : {buf₀ l buf : List A} {e : End} → Grown buf₀ l buf e → length buf ≡ length buf₀
  grown_lengths g = ap length g.is ∙ simp length-sets

  -- what stood before `used` still stands where the list starts with it
  pub grown_keeps : {buf₀ l buf : List A} {e : End} (used : ℕ) → Grown buf₀ l buf e → used ≤ e.room → take used l ≡ take used buf₀
      → take used buf ≡ take used buf₀
  grown_keeps {buf₀} {l} {e} used g h k = ap (take used) g.is ∙ sets_keeps e.room used buf₀ l h g.lent k

  -- what is held determines the buffer and the end
  pub grown_same : {buf₀ l buf buf' : List A} {e e' : End} → Grown buf₀ l buf e → Grown buf₀ l buf' e' → e.room ≡ e'.room → (buf ≡ buf') × (e ≡ e')
  grown_same {e} {e'} g g' s = (
    g.is ∙ rw s (sym g'.is),
    ends_equal e e' (g.at_is ∙ rw s (sym g'.at_is)) s (g.full_is ∙ rw s (sym g'.full_is)),
  )
