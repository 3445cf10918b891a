-- Laws of expiry: what stays and what goes, one entry after the other, and the state after each turn of the loop.
use mathlib.Core.Path.{◌≡◌, refl, ap, ◌∙◌}
use mathlib.Core.Bool.{Bool, true, false}
use mathlib.Core.List.{List, [], ◌∷◌, ◌++◌, append-nil}
use Prim.Native.Nat.{ℕ, suc, ◌+◌, ◌≤◌, ◌<◌}
use native.Mathlib.Omega.{arith}
use native.Mathlib.Numerals.{add-one}
use lib.Dec.{leb}
use lib.ListN.{length, get_or, take, drop, set, length-take}
use lib.Seq.{take-suc, length-take-le, split_at, take-take, get_or-take, take-append_seam}
use borrow.Author.Tests.{leb-true, le-leb, lt-leb}
use Rattle.base.specs.Choice.{pick}
use Rattle.place.specs.declared.Place.{Place}
use Rattle.place.specs.declared.Place.TheVariants.{Slot, Register}
use Rattle.alloc.specs.declared.Entry.{Entry}
use Rattle.alloc.specs.declared.Alloc.{Alloc}
use Rattle.alloc.specs.State.{live, with_active, over, most_slots, empty_entry}
use Rattle.alloc.specs.Allocation.{kept_of, gone_of, free_reg, free_slot, release, release_all, expire_of}
use Rattle.alloc.specs.Good.{Releasable}
use Rattle.alloc.proofs.Arrays.{over-get_or, over-set}

-- ---- what stays and what goes of two parts
pick-append : (b : Bool) (x : Entry) (k t : List Entry) → pick b (k ++ t) (x ∷ (k ++ t)) ≡ pick b k (x ∷ k) ++ t
pick-append true x k t = refl
pick-append false x k t = refl

pick-append_gone : (b : Bool) (x : Entry) (k t : List Entry) → pick b (x ∷ (k ++ t)) (k ++ t) ≡ pick b (x ∷ k) k ++ t
pick-append_gone true x k t = refl
pick-append_gone false x k t = refl

pub kept_append : (at : ℕ) (xs ys : List Entry) → kept_of at (xs ++ ys) ≡ kept_of at xs ++ kept_of at ys
unfolding kept_of
kept_append at [] ys = refl
kept_append at (x ∷ xs) ys = rw (kept_append at xs ys) (pick-append (leb x.end at) x (kept_of at xs) (kept_of at ys))

pub gone_append : (at : ℕ) (xs ys : List Entry) → gone_of at (xs ++ ys) ≡ gone_of at xs ++ gone_of at ys
unfolding gone_of
gone_append at [] ys = refl
gone_append at (x ∷ xs) ys = rw (gone_append at xs ys) (pick-append_gone (leb x.end at) x (gone_of at xs) (gone_of at ys))

release_all-append : (xs ys : List Entry) (s : Alloc) → release_all (xs ++ ys) s ≡ release_all ys (release_all xs s)
unfolding release_all
release_all-append [] ys s = refl
release_all-append (x ∷ xs) ys s = release_all-append xs ys (release x.place s)

-- a release leaves the active list alone
release-with : (p : Place) (l : List Entry) (n : ℕ) (s : Alloc) → release p (with_active l n s) ≡ with_active l n (release p s)
unfolding release free_reg free_slot
release-with (Slot k) l n s = refl
release-with (Register r) l n s = refl

pick_le : (b : Bool) (x : Entry) (k : List Entry) (n : ℕ) → length k ≤ n → length (pick b k (x ∷ k)) ≤ suc n
pick_le true x k n h = omega arith
pick_le false x k n h = omega arith

pub length-kept : (at : ℕ) (xs : List Entry) → length (kept_of at xs) ≤ length xs
unfolding kept_of
length-kept at [] = omega arith
length-kept at (x ∷ xs) = pick_le (leb x.end at) x (kept_of at xs) (length xs) (length-kept at xs)

-- what expires later expires now or stays now
kept_one : (at t : ℕ) (x : Entry) (k l : List Entry) (b : Bool) → leb x.end at ≡ b → at ≤ t → kept_of t k ≡ kept_of t l
    → kept_of t (pick b k (x ∷ k)) ≡ kept_of t (x ∷ l)
unfolding kept_of
kept_one at t x k l true e h q = rw (le-leb x.end t (omega (arith, leb-true x.end at e))) q
kept_one at t x k l false e h q = ap (λ (m : List Entry). pick (leb x.end t) m (x ∷ m)) q

pub kept-kept : (at t : ℕ) (xs : List Entry) → at ≤ t → kept_of t (kept_of at xs) ≡ kept_of t xs
unfolding kept_of
kept-kept at t [] h = refl
kept-kept at t (x ∷ xs) h = kept_one at t x (kept_of at xs) xs (leb x.end at) refl h (kept-kept at t xs h)

-- an entry that ends after t stays at t
pub kept_last : (t : ℕ) (e : Entry) → t < e.end → kept_of t (e ∷ []) ≡ e ∷ []
unfolding kept_of
kept_last t e h = rw (lt-leb e.end t h)

-- ---- how many slots are among the entries
abbrev pub is_slot : Place → ℕ
is_slot (Slot k) = 1
is_slot (Register r) = 0

unfoldable pub slots_in : List Entry → ℕ
slots_in [] = 0
slots_in (e ∷ es) = is_slot e.place + slots_in es

pub slots_append : (xs ys : List Entry) → slots_in (xs ++ ys) ≡ slots_in xs + slots_in ys
unfolding slots_in
slots_append [] ys = omega arith
slots_append (x ∷ xs) ys = omega (arith, slots_append xs ys)

pick_slots : (b : Bool) (x : Entry) (k : List Entry) (n : ℕ) → slots_in k ≤ n → slots_in (pick b (x ∷ k) k) ≤ is_slot x.place + n
unfolding slots_in
pick_slots true x k n h = omega arith
pick_slots false x k n h = omega arith

pub slots_gone : (at : ℕ) (xs : List Entry) → slots_in (gone_of at xs) ≤ slots_in xs
unfolding gone_of slots_in
slots_gone at [] = omega arith
slots_gone at (x ∷ xs) = pick_slots (leb x.end at) x (gone_of at xs) (slots_in xs) (slots_gone at xs)

pub spares_release : (p : Place) (s : Alloc) → (release p s).spares ≡ is_slot p + s.spares
unfolding release free_reg free_slot
spares_release (Slot k) s = omega arith
spares_release (Register r) s = omega arith

pub spares_all : (xs : List Entry) (s : Alloc) → (release_all xs s).spares ≡ s.spares + slots_in xs
unfolding release_all slots_in
spares_all [] s = omega arith
spares_all (x ∷ xs) s = omega (arith, spares_all xs (release x.place s), spares_release x.place s)

made_release : (p : Place) (s : Alloc) → (release p s).made ≡ s.made
unfolding release free_reg free_slot
made_release (Slot k) s = refl
made_release (Register r) s = refl

made_all : (xs : List Entry) (s : Alloc) → (release_all xs s).made ≡ s.made
unfolding release_all
made_all [] s = refl
made_all (x ∷ xs) s = made_all xs (release x.place s) ∙ made_release x.place s

releasable : (p : Place) (s : Alloc) → is_slot p + s.spares ≤ most_slots → Releasable p s
releasable (Slot k) s l = omega arith
releasable (Register r) s l = tt

-- ---- the state after an expiry
pub live-expire : (at : ℕ) (s : Alloc) → live (expire_of at s) ≡ kept_of at (live s)
unfolding expire_of
live-expire at s = take-append_seam (kept_of at (live s)) (drop (length (kept_of at (live s))) s.active)

pub expire_made : (at : ℕ) (s : Alloc) → (expire_of at s).made ≡ s.made
unfolding expire_of
expire_made at s = made_all (gone_of at (live s)) s

pub expire_spares : (at : ℕ) (s : Alloc) → (expire_of at s).spares ≡ s.spares + slots_in (gone_of at (live s))
unfolding expire_of
expire_spares at s = spares_all (gone_of at (live s)) s

pub expire-count : (at : ℕ) (s : Alloc) → (expire_of at s).count ≤ s.count
unfolding expire_of
expire-count at s = omega (arith, length-kept at (live s), length-take s.count s.active)

-- ---- the state after i turns of the loop
unfoldable pub state_at : ℕ → Alloc → ℕ → Alloc
state_at at s i =
    with_active (over (kept_of at (take i s.active)) s.active) s.count (release_all (gone_of at (take i s.active)) s)

module _ (at : ℕ) (s : Alloc) (i : ℕ) (l : i < length s.active) where
  more : take (i + 1) s.active ≡ take i s.active ++ get_or s.active i empty_entry ∷ []
  more = rw add-one (take-suc s.active i empty_entry l)

  pub kept_few : length (kept_of at (take i s.active)) ≤ i
  kept_few = omega (arith, length-kept at (take i s.active), length-take-le i s.active (omega arith))

  pub entry_at : get_or (state_at at s i).active i empty_entry ≡ get_or s.active i empty_entry
  unfolding state_at
  entry_at = over-get_or (kept_of at (take i s.active)) s.active i empty_entry kept_few

  -- the entry goes
  module _ (h : (get_or s.active i empty_entry).end ≤ at) where
    pub gone_kept : kept_of at (take (i + 1) s.active) ≡ kept_of at (take i s.active)
    unfolding kept_of
    gone_kept = rw (more, kept_append, le-leb _ _ h) (append-nil _)

    gone_gone : gone_of at (take (i + 1) s.active) ≡ gone_of at (take i s.active) ++ get_or s.active i empty_entry ∷ []
    unfolding gone_of
    gone_gone = rw (more, gone_append, le-leb _ _ h)

    pub gone_state : release (get_or s.active i empty_entry).place (state_at at s i) ≡ state_at at s (i + 1)
    unfolding state_at release_all
    gone_state = rw (gone_kept, gone_gone, release_all-append) (release-with _ _ _ _)

  -- the entry stays
  module _ (h : at < (get_or s.active i empty_entry).end) where
    pub stays-kept : kept_of at (take (i + 1) s.active) ≡ kept_of at (take i s.active) ++ get_or s.active i empty_entry ∷ []
    unfolding kept_of
    stays-kept = rw (more, kept_append, lt-leb _ _ h)

    stays_gone : gone_of at (take (i + 1) s.active) ≡ gone_of at (take i s.active)
    unfolding gone_of
    stays_gone = rw (more, gone_append, lt-leb _ _ h) (append-nil _)

    pub stays_state : with_active (set (state_at at s i).active (length (kept_of at (take i s.active))) (get_or s.active i empty_entry))
        (state_at at s i).count (state_at at s i)
        ≡ state_at at s (i + 1)
    unfolding state_at
    stays_state =
        rw (
          stays-kept,
          stays_gone,
          over-set (kept_of at (take i s.active)) s.active (get_or s.active i empty_entry) (omega (arith, kept_few)),
        )

  -- there is room on the free slots for what goes
  pub releasable_at : i < s.count → s.count ≤ length s.active → s.spares + slots_in (live s) ≤ most_slots
      → Releasable (get_or s.active i empty_entry).place (state_at at s i)
  unfolding state_at slots_in
  releasable_at ic cl room =
      let e : live s ≡ take i s.active ++ get_or s.active i empty_entry ∷ drop (suc i) (live s) =
      split_at (live s) i empty_entry (omega (arith, length-take-le s.count s.active cl))
      ∙ rw (take-take i s.count s.active (omega arith), get_or-take s.count s.active i empty_entry ic) in
      let k : is_slot (get_or s.active i empty_entry).place + (release_all (gone_of at (take i s.active)) s).spares ≤ most_slots =
      omega (
        arith,
        spares_all (gone_of at (take i s.active)) s,
        slots_gone at (take i s.active),
        ap slots_in e,
        slots_append (take i s.active) (get_or s.active i empty_entry ∷ drop (suc i) (live s)),
      ) in
      releasable (get_or s.active i empty_entry).place (state_at at s i) k

-- after the last turn
pub expired : (at : ℕ) (s : Alloc) (i k : ℕ) (t : Alloc) → i ≡ s.count → k ≡ length (kept_of at (take i s.active)) → t ≡ state_at at s i
    → with_active t.active k t ≡ expire_of at s
unfolding state_at expire_of
expired at s i k t p q r = rw (r, q, p)
