-- Finding a constant among the globals and a builtin in its list, and what is done where it is found and where it isn't.
use mathlib.Core.Path.{◌≡◌, refl, sym, ap, ◌∙◌}
use mathlib.Core.Logic.{⊎_elim}
use mathlib.Core.Bool.{Bool, true, false, cond}
use Prim.Native.Nat.{ℕ, zero, suc, ◌+◌, ◌*◌, ◌/◌, ◌≤◌, ◌<◌, min}
use mathlib.Core.List.{List, [], ◌∷◌, ◌++◌, append_assoc}
use native.Mathlib.Omega.{arith}
use borrow.Author.Tests.{lt-ltb, le-ltb}
use lib.Dec.{ltb, eqb}
use lib.ListN.{length, get_or, take, drop, length-take, length-append}
use lib.Seq.{take-nil, take_all, take-take, take-append-le}
use Rattle.std.specs.Prelude.{Some, None}
use Rattle.std.specs.List.{position_or_len}
use Rattle.std.specs.Option.{unwrap_or}
use Rattle.std.proofs.lemmas.List.Recursion.{is_position_or_len}
use Rattle.std.proofs.lemmas.List.Sums.{prefix_len-le-length}
use Rattle.base.specs.Choice.{pick}
use Rattle.base.proofs.Numbers.{lt?, pick-both}
use Rattle.base.proofs.Lists.{peel, past}
use Rattle.grow.specs.declared.End.{End}
use Rattle.grow.specs.Growing.{Grown, Grows}
use Rattle.grow.proofs.Growing.{then, grown_read, grown_past}
use Rattle.input.specs.Forms.{both}
use Rattle.interning.specs.Interning.{global_of, intern, builtin_of, intern_builtin}

-- ---- the number of a constant

-- fewer than two numbers are no constant
none_left : (kind payload : ℕ) (l : List ℕ) → length l ≤ 1 → global_of kind payload l ≡ 0
unfolding global_of
none_left kind payload [] h = refl
none_left kind payload (k ∷ []) h = refl
none_left kind payload (k ∷ p ∷ l) h = absurd (omega arith)

-- no number is past the last
global_most : (kind payload : ℕ) (l : List ℕ) → 2 * global_of kind payload l ≤ length l
unfolding global_of
global_most kind payload [] = omega arith
global_most kind payload (k ∷ []) = omega arith
global_most kind payload (k ∷ p ∷ l) =
    pick-both (λ (n : ℕ). 2 * n ≤ suc (suc (length l))) (both (eqb k kind) (eqb p payload)) 0 (suc (global_of kind payload l))
    (omega arith)
    (omega (arith, global_most kind payload l))

pub global_few : (kind payload n : ℕ) (g : List ℕ) (found : ℕ) → found ≡ global_of kind payload (take n g) → 2 * found ≤ n
global_few kind payload n g found e = omega (arith, global_most kind payload (take n g), length-take n g)

-- an odd number at the end is none
global_cut : (kind payload : ℕ) (l : List ℕ) (n : ℕ) → length l ≤ 2 * n + 1 → global_of kind payload (take (2 * n) l) ≡ global_of kind payload l
unfolding global_of
global_cut kind payload [] n h = rw (take-nil (2 * n))
global_cut kind payload (k ∷ []) zero h = refl
global_cut kind payload (k ∷ []) (suc n) h = rw (take_all (2 * suc n) (k ∷ []) (omega arith))
global_cut kind payload (k ∷ p ∷ l) zero h = absurd (omega arith)
global_cut kind payload (k ∷ p ∷ l) (suc n) h =
    let e : 2 * suc n ≡ suc (suc (2 * n)) = omega arith in
    let i : length l ≤ 2 * n + 1 = omega arith in
    rw e (ap (λ (m : ℕ). pick (both (eqb k kind) (eqb p payload)) 0 (suc m)) (global_cut kind payload l n i))

-- The constants from the i-th on decide which it is.
abbrev pub GlobalLeft : ℕ → ℕ → List ℕ → ℕ → ℕ → Type 0
GlobalLeft kind payload g count i =
    i + global_of kind payload (drop (2 * i) (take (2 * count) g)) ≡ global_of kind payload (take (2 * count) g)

pub global_start : (kind payload : ℕ) (g : List ℕ) (count : ℕ) → GlobalLeft kind payload g count 0
global_start kind payload g count = omega arith

module _ (kind payload : ℕ) (g : List ℕ) (count i : ℕ) where
  global_turn : i < count → 2 * count ≤ length g
      → drop (2 * i) (take (2 * count) g) ≡ get_or g (2 * i) 0 ∷ get_or g (2 * i + 1) 0 ∷ drop (2 * (i + 1)) (take (2 * count) g)
  global_turn h k =
      let e : 2 * (i + 1) ≡ 2 * i + 1 + 1 = omega arith in
      peel (2 * count) (2 * i) g (omega arith) k
      ∙ ap (λ (l : List ℕ). get_or g (2 * i) 0 ∷ l) (peel (2 * count) (2 * i + 1) g (omega arith) k ∙ rw e)

  pub global_here : i < count → 2 * count ≤ length g → both (eqb (get_or g (2 * i) 0) kind) (eqb (get_or g (2 * i + 1) 0) payload) ≡ true
      → GlobalLeft kind payload g count i → i ≡ global_of kind payload (take (2 * count) g)
  unfolding global_of
  global_here h k t s =
      let z : global_of kind payload (drop (2 * i) (take (2 * count) g)) ≡ 0 = rw (global_turn h k, t) in
      omega arith

  pub global_on : i < count → 2 * count ≤ length g → both (eqb (get_or g (2 * i) 0) kind) (eqb (get_or g (2 * i + 1) 0) payload) ≡ false
      → GlobalLeft kind payload g count i → GlobalLeft kind payload g count (i + 1)
  unfolding global_of
  global_on h k t s =
      let z : global_of kind payload (drop (2 * i) (take (2 * count) g)) ≡ suc (global_of kind payload (drop (2 * (i + 1)) (take (2 * count) g))) =
      rw (global_turn h k, t) in
      omega arith

  pub global_end : count ≤ i → i ≤ count → GlobalLeft kind payload g count i → count ≡ global_of kind payload (take (2 * count) g)
  global_end h k s =
      let p : drop (2 * i) (take (2 * count) g) ≡ [] = past (2 * count) (2 * i) g (omega arith) in
      let z : global_of kind payload (drop (2 * i) (take (2 * count) g)) ≡ 0 = rw p (none_left kind payload [] (omega arith)) in
      omega arith

-- ---- a constant that is there or not

-- the pairs that code looks through, where the buffer has so many numbers and the end stands there
abbrev pub pairs_used : End → List ℕ → ℕ
pairs_used e buf = min e.at (length buf) / 2

-- they are those of the list, where all of it found room
global_read : (kind payload : ℕ) {buf₀ l buf : List ℕ} {e : End} → Grown buf₀ l buf e → length l ≤ e.room
    → global_of kind payload (take (2 * pairs_used e buf) buf) ≡ global_of kind payload l
global_read kind payload {buf₀} {l} {buf} {e} g h =
    let n = min e.at (length buf) in
    let r : take n buf ≡ l = grown_read g h in
    let m : length (take n buf) ≡ n = length-take n buf ∙ omega arith in
    let k : length l ≡ n = sym (ap length r) ∙ m in
    let c : length l ≤ 2 * (n / 2) + 1 = omega arith in
    let t : take (2 * (n / 2)) buf ≡ take (2 * (n / 2)) l = sym (take-take (2 * (n / 2)) n buf (omega arith)) ∙ ap (take (2 * (n / 2))) r in
    rw t (global_cut kind payload l (n / 2) c)

module _ (kind payload found : ℕ) (e : End) (buf : List ℕ) (is : found ≡ global_of kind payload (take (2 * pairs_used e buf) buf)) where
  -- found: nothing is to be done; a list with more numbers than room stays as it is held
  pub intern-found : 2 * found < e.at → Grows (intern kind payload) buf e buf e
  unfolding intern
  intern-found h =
      record {
        room_kept = refl;
        go = λ buf₀ l g.
            ⊎_elim
            (λ (k : e.room < length l).
            pick-both (λ (m : List ℕ). Grown buf₀ m buf e) (ltb (2 * global_of kind payload l) (length l)) l (l ++ (kind ∷ payload ∷ []))
            g
            (grown_past (l ++ (kind ∷ payload ∷ [])) g k (omega (arith, length-append l (kind ∷ payload ∷ [])))
            (sym (take-append-le e.room l (kind ∷ payload ∷ []) (omega arith)))))
            (λ (k : length l ≤ e.room).
            let t : 2 * global_of kind payload l < length l = omega (arith, is, global_read kind payload g k, g.at_is) in
            rw (lt-ltb (2 * global_of kind payload l) (length l) t) g)
            (lt? e.room (length l));
      }

  -- not found: it goes behind the list
  pub intern-new : {buf' buf'' : List ℕ} {e' e'' : End} → e.at ≤ 2 * found → Grows (λ l. l ++ (kind ∷ [])) buf e buf' e'
      → Grows (λ l. l ++ (payload ∷ [])) buf' e' buf'' e'' → Grows (intern kind payload) buf e buf'' e''
  unfolding intern
  intern-new {buf'} {buf''} {e'} {e''} h x y =
      let z = then x y in
      record {
        room_kept = z.room_kept;
        go = λ buf₀ l g.
            let w : Grown buf₀ (l ++ (kind ∷ payload ∷ [])) buf'' e'' = rw (append_assoc l (kind ∷ []) (payload ∷ [])) at (z.go buf₀ l g) in
            ⊎_elim
            (λ (k : e.room < length l).
            let n : e''.room < length l = rw z.room_kept k in
            pick-both (λ (m : List ℕ). Grown buf₀ m buf'' e'') (ltb (2 * global_of kind payload l) (length l)) l (l ++ (kind ∷ payload ∷ []))
            (grown_past l w (omega (arith, length-append l (kind ∷ payload ∷ []))) n (take-append-le e''.room l (kind ∷ payload ∷ []) (omega arith)))
            w)
            (λ (k : length l ≤ e.room).
            let t : length l ≤ 2 * global_of kind payload l = omega (arith, is, global_read kind payload g k, g.at_is) in
            rw (le-ltb (2 * global_of kind payload l) (length l) t) w)
            (lt? e.room (length l));
      }

-- ---- builtins

-- the library's word for the number of a builtin
builtin_place : (x : ℕ) (l : List ℕ) → builtin_of x l ≡ position_or_len (λ y. eqb y x) l
unfolding builtin_of
builtin_place x l = is_position_or_len (builtin_of x) (λ y. eqb y x) refl (λ y ys. go (eqb y x) (builtin_of x ys)) l where
  go : (t : Bool) (n : ℕ) → pick t 0 (suc n) ≡ cond t 0 (1 + n)
  go true n = refl
  go false n = grind arith

-- the place that a search gives, or the count
pub builtin_or_count : (x : ℕ) (l : List ℕ) (count : ℕ) → count ≡ length l
    → unwrap_or (cond (ltb (position_or_len (λ y. eqb y x) l) (length l)) (Some (position_or_len (λ y. eqb y x) l)) None) count ≡ builtin_of x l
builtin_or_count x l count e =
    let n = position_or_len (λ y. eqb y x) l in
    let m : n ≤ length l = prefix_len-le-length _ l in
    rw (builtin_place x l)
    (⊎_elim
    (λ (h : n < length l). rw (lt-ltb n (length l) h))
    (λ (h : length l ≤ n). rw (le-ltb n (length l) h) (omega arith))
    (lt? n (length l)))

module _ (x found : ℕ) (e : End) (buf : List ℕ) (is : found ≡ builtin_of x (take (min e.at (length buf)) buf)) where
  pub builtin_found : found < e.at → Grows (intern_builtin x) buf e buf e
  unfolding intern_builtin
  builtin_found h =
      record {
        room_kept = refl;
        go = λ buf₀ l g.
            ⊎_elim
            (λ (k : e.room < length l).
            pick-both (λ (m : List ℕ). Grown buf₀ m buf e) (ltb (builtin_of x l) (length l)) l (l ++ (x ∷ []))
            g
            (grown_past (l ++ (x ∷ [])) g k (omega (arith, length-append l (x ∷ []))) (sym (take-append-le e.room l (x ∷ []) (omega arith)))))
            (λ (k : length l ≤ e.room).
            let t : builtin_of x l < length l = omega (arith, is, ap (builtin_of x) (grown_read g k), g.at_is) in
            rw (lt-ltb (builtin_of x l) (length l) t) g)
            (lt? e.room (length l));
      }

  pub builtin_new : {buf' : List ℕ} {e' : End} → e.at ≤ found → Grows (λ l. l ++ (x ∷ [])) buf e buf' e' → Grows (intern_builtin x) buf e buf' e'
  unfolding intern_builtin
  builtin_new {buf'} {e'} h z =
      record {
        room_kept = z.room_kept;
        go = λ buf₀ l g.
            let w = z.go buf₀ l g in
            ⊎_elim
            (λ (k : e.room < length l).
            let n : e'.room < length l = rw z.room_kept k in
            pick-both (λ (m : List ℕ). Grown buf₀ m buf' e') (ltb (builtin_of x l) (length l)) l (l ++ (x ∷ []))
            (grown_past l w (omega (arith, length-append l (x ∷ []))) n (take-append-le e'.room l (x ∷ []) (omega arith)))
            w)
            (λ (k : length l ≤ e.room).
            let t : length l ≤ builtin_of x l = omega (arith, is, ap (builtin_of x) (grown_read g k), g.at_is) in
            rw (le-ltb (builtin_of x l) (length l) t) w)
            (lt? e.room (length l));
      }
