-- Every slot that was made is free or held. So where a placement finds none, all 128 are held by entries that last, and no register of the pool is free.
use mathlib.Core.Path.{◌≡◌, refl, sym, ap, ◌∙◌}
use mathlib.Core.Bool.{Bool, true, false}
use mathlib.Core.List.{List, [], ◌∷◌}
use Prim.Native.Nat.{ℕ, ◌+◌, ◌≤◌, ◌<◌}
use native.Mathlib.Omega.{arith}
use lib.Dec.{leb, ltb, eqb}
use lib.ListN.{length, get_or}
use borrow.Author.Tests.{ltb-true, ltb-false, leb-true, eqb-true, eq-eqb, le-ltb, le-leb}
use Rattle.std.specs.Prelude.{Option, Some, None}
use Rattle.base.specs.Choice.{pick}
use Rattle.base.specs.Lists.{among}
use Rattle.base.specs.Masks.{has_bit}
use Rattle.base.proofs.Numbers.{pick-both, pick_case}
use Rattle.place.specs.declared.Place.{Place}
use Rattle.place.specs.declared.Reg.{Reg}
use Rattle.place.specs.declared.Place.TheVariants.{Register}
use Rattle.place.specs.Places.{found_of}
use Rattle.alloc.specs.declared.Entry.{Entry}
use Rattle.alloc.specs.declared.Alloc.{Alloc}
use Rattle.alloc.specs.declared.Taken.{Taken}
use Rattle.alloc.specs.State.{most_slots, live, fresh_of}
use Rattle.alloc.specs.Allocation.{kept_of, gone_of, expire_of, is_free, take_reg, last_free, or_else, take_slot, from_pool, hinted, take_of, entered, enter, new_place, place_of, place_again, pin_of}
use Rattle.alloc.specs.Good.{Good}
use Rattle.alloc.proofs.Expiry.{is_slot, slots_in, slots_append, live-expire, expire_made, expire_spares}
use Rattle.alloc.proofs.Counts.{live-entered}
use Rattle.alloc.proofs.Keeps.{PendingFor, pending_room, pending_reg, take_ok, good_expire}
use Rattle.alloc.proofs.Outcome.{new_got}

-- every slot that was made is free or held
abbrev pub NoneLost : Alloc → Type 0
NoneLost s = s.spares + slots_in (live s) ≡ s.made

-- the same where a place was taken, and not entered yet
abbrev NoneLostFor : Alloc → Option Place → Type 0
NoneLostFor s (Some p) = is_slot p + (s.spares + slots_in (live s)) ≡ s.made
NoneLostFor s None = Unit

abbrev NoneLostIn : Taken → Type 0
NoneLostIn t = NoneLostFor t.state t.got

pub lost_fresh : (gprs fprs : List ℕ) → NoneLost (fresh_of gprs fprs)
unfolding fresh_of slots_in
lost_fresh gprs fprs = refl

-- ---- expiry
split_one : (x : Entry) (b : Bool) (k g : List Entry) → slots_in (pick b k (x ∷ k)) + slots_in (pick b (x ∷ g) g) ≡ is_slot x.place + (slots_in k + slots_in g)
unfolding slots_in
split_one x true k g = omega arith
split_one x false k g = omega arith

slots_split : (at : ℕ) (xs : List Entry) → slots_in (kept_of at xs) + slots_in (gone_of at xs) ≡ slots_in xs
unfolding slots_in kept_of gone_of
slots_split at [] = refl
slots_split at (x ∷ xs) =
    split_one x (leb x.end at) (kept_of at xs) (gone_of at xs)
    ∙ ap (λ (n : ℕ). is_slot x.place + n) (slots_split at xs)

pub lost_expire : (at : ℕ) (s : Alloc) → NoneLost s → NoneLost (expire_of at s)
lost_expire at s h = rw (live-expire, expire_made, expire_spares) (omega (arith, slots_split at (live s)))

-- ---- taking
lost_slot : (s : Alloc) → NoneLost s → NoneLostIn (take_slot s)
unfolding take_slot
lost_slot s h =
    pick_case NoneLostIn (ltb 0 s.spares) _ _ (λ e. omega (arith, ltb-true 0 s.spares e))
    (λ e. pick-both NoneLostIn (leb most_slots s.made) _ _ tt (omega arith))

lost_reg : (r : Reg) (s : Alloc) → NoneLost s → NoneLostFor (take_reg r s) (Some (Register r))
unfolding take_reg
lost_reg r s h = omega arith

lost_pool : (class : ℕ) (f : Option ℕ) (s : Alloc) → NoneLost s → NoneLostIn (from_pool class f s)
unfolding from_pool
lost_pool class (Some r) s h = lost_reg _ s h
lost_pool class None s h = lost_slot s h

lost_take : (class : ℕ) (h : Option Reg) (pool : List ℕ) (s : Alloc) → NoneLost s → NoneLostIn (take_of class h pool s)
unfolding take_of
lost_take class None pool s n = lost_pool class (last_free (get_or s.free class 0) pool) s n
lost_take class (Some r) pool s n =
    pick-both NoneLostIn (hinted class r s) _ _ (lost_reg r s n)
    (lost_pool class (last_free (get_or s.free class 0) pool) s n)

-- ---- entering
one_slot : (e : Entry) → slots_in (e ∷ []) ≡ is_slot e.place
unfolding slots_in
one_slot e = omega arith

lost_entered : (e : Entry) (s : Alloc) → s.count < length s.active → is_slot e.place + (s.spares + slots_in (live s)) ≡ s.made → NoneLost (entered e s)
lost_entered e s l h = rw (live-entered e s l) (omega (arith, slots_append (live s) (e ∷ []), one_slot e))

lost_enter : (end : ℕ) (before s : Alloc) (x : Option Place) → PendingFor s x → NoneLost before → NoneLostFor s x → NoneLost (enter end before s x).state
unfolding enter
lost_enter end before s (Some p) r n h =
    let e : Entry = record { end = end; place = p } in
    lost_entered e s (omega (arith, pending_room e s r, r.shape.actives)) h
lost_enter end before s None r n h = n

pub lost_new : (class at end : ℕ) (h : Option Reg) (pool : List ℕ) (s : Alloc) → Good s → NoneLost s → NoneLost (new_place class at end h pool s).state
unfolding new_place
lost_new class at end h pool s g n =
    let x : Alloc = expire_of at s in
    let t : Taken = take_of class h pool x in
    lost_enter end s t.state t.got (take_ok class h pool x (good_expire at s g)) n
    (lost_take class h pool x (lost_expire at s n))

lost_again : (s : Alloc) (f : Option Place) (new : Taken) → NoneLost s → NoneLost new.state → NoneLost (place_again s f new).state
lost_again s (Some p) new n k = n
lost_again s None new n k = k

pub lost_place : (map : List ℕ) (id class at end : ℕ) (h : Option Reg) (pool : List ℕ) (s : Alloc) → Good s → NoneLost s
    → NoneLost (place_of map id class at end h pool s).state
unfolding place_of
lost_place map id class at end h pool s g n =
    lost_again s (found_of (get_or map id 0)) (new_place class at end h pool s) n (lost_new class at end h pool s g n)

pub lost_pin : (r : Reg) (end : ℕ) (s : Alloc) → Good s → NoneLost s → NoneLost (pin_of r end s)
unfolding pin_of
lost_pin r end s g n =
    let e : Entry = record { end = end; place = Register r } in
    pick_case NoneLost (is_free r s) _ _
    (λ f.
    let k = pending_reg r s g f in
    lost_entered e (take_reg r s) (omega (arith, pending_room e (take_reg r s) k, k.shape.actives)) (lost_reg r s n))
    (λ f. n)

-- ---- where no place is found
-- no number of the pool is free
abbrev pub NoneFree : ℕ → List ℕ → Type 0
NoneFree m pool = (r : ℕ) → among r pool ≡ true → has_bit m r ≡ false

abbrev NoneFor : ℕ → List ℕ → Option ℕ → Type 0
NoneFor m pool (Some r) = Unit
NoneFor m pool None = NoneFree m pool

none_case : (m x : ℕ) (xs : List ℕ) (f : Option ℕ) (b : Bool) → has_bit m x ≡ b → NoneFor m xs f → NoneFor m (x ∷ xs) (or_else f (pick b (Some x) None))
none_case m x xs (Some r) b e h = tt
none_case m x xs None true e h = tt
none_case m x xs None false e h = λ r a.
    pick_case (λ (t : Bool). t ≡ true → has_bit m r ≡ false) (eqb r x) true (among r xs)
    (λ q _. let z : r ≡ x = eqb-true r x q in rw z e) (λ q k. h r k) a

none_free : (m : ℕ) (xs : List ℕ) → NoneFor m xs (last_free m xs)
unfolding last_free
none_free m [] = λ r a. absurd (let z : ◌≡◌ {A = ℕ} 0 1 = cc in omega arith)
none_free m (x ∷ xs) = none_case m x xs (last_free m xs) (has_bit m x) refl (none_free m xs)

-- what a taking that finds nothing says
pub record Nothing (class : ℕ) (pool : List ℕ) (s : Alloc) : Type 0 where
  pub no_free : s.spares ≡ 0
  pub all_made : most_slots ≤ s.made
  pub no_reg : NoneFree (get_or s.free class 0) pool

abbrev NothingFor : ℕ → List ℕ → Alloc → Option Place → Type 0
NothingFor class pool s (Some p) = Unit
NothingFor class pool s None = Nothing class pool s

nothing-slot : (class : ℕ) (pool : List ℕ) (s : Alloc) → NoneFree (get_or s.free class 0) pool → NothingFor class pool s (take_slot s).got
unfolding take_slot
nothing-slot class pool s h =
    pick_case (λ (t : Taken). NothingFor class pool s t.got) (ltb 0 s.spares) _ _ (λ e. tt)
    (λ e.
    pick_case (λ (t : Taken). NothingFor class pool s t.got) (leb most_slots s.made) _ _
    (λ f. record { no_free = omega (arith, ltb-false 0 s.spares e); all_made = leb-true most_slots s.made f; no_reg = h })
    (λ f. tt))

nothing-pool : (class : ℕ) (pool : List ℕ) (f : Option ℕ) (s : Alloc) → NoneFor (get_or s.free class 0) pool f → NothingFor class pool s (from_pool class f s).got
unfolding from_pool
nothing-pool class pool (Some r) s h = tt
nothing-pool class pool None s h = nothing-slot class pool s h

nothing-take : (class : ℕ) (h : Option Reg) (pool : List ℕ) (s : Alloc) → NothingFor class pool s (take_of class h pool s).got
unfolding take_of
nothing-take class None pool s =
    nothing-pool class pool (last_free (get_or s.free class 0) pool) s (none_free (get_or s.free class 0) pool)
nothing-take class (Some r) pool s =
    pick-both (λ (t : Taken). NothingFor class pool s t.got) (hinted class r s) _ _ tt
    (nothing-pool class pool (last_free (get_or s.free class 0) pool) s (none_free (get_or s.free class 0) pool))

-- 8, and only then: every register of the pool is taken, and all 128 slots are held by entries that end after `at`
pub record Full (class at : ℕ) (pool : List ℕ) (s : Alloc) : Type 0 where
  pub no_reg : NoneFree (get_or (expire_of at s).free class 0) pool
  pub all_held : slots_in (kept_of at (live s)) ≡ most_slots

pub no_slot : (class at end : ℕ) (h : Option Reg) (pool : List ℕ) (s : Alloc) → Good s → NoneLost s → (new_place class at end h pool s).got ≡ None
    → Full class at pool s
no_slot class at end h pool s g n e =
    let x : Alloc = expire_of at s in
    let k : Nothing class pool x = rw (sym (new_got class at end h pool s) ∙ e) at (nothing-take class h pool x) in
    let m : (expire_of at s).made ≡ s.made = expire_made at s in
    record {
      no_reg = k.no_reg;
      all_held = omega (arith, g.capped, k.no_free, k.all_made, m, rw live-expire at (lost_expire at s n));
    }

-- ---- and then
last_none : (m : ℕ) (xs : List ℕ) → NoneFree m xs → last_free m xs ≡ None
unfolding last_free
last_none m [] h = refl
last_none m (x ∷ xs) h =
    rw (last_none m xs (λ r a. h r (pick-both (λ (t : Bool). t ≡ true) (eqb r x) true (among r xs) refl a)), h x (rw (eq-eqb x x refl)))

slot_none : (s : Alloc) → s.spares ≡ 0 → most_slots ≤ s.made → (take_slot s).got ≡ None
unfolding take_slot
slot_none s z m = rw (le-ltb 0 s.spares (omega arith), le-leb most_slots s.made m)

pool_none : (class : ℕ) (f : Option ℕ) (s : Alloc) → f ≡ None → s.spares ≡ 0 → most_slots ≤ s.made → (from_pool class f s).got ≡ None
unfolding from_pool
pool_none class f s e z m = rw e (slot_none s z m)

-- the hint is none of the class that is free
abbrev pub NoHint : ℕ → Option Reg → Alloc → Type 0
NoHint class None s = Unit
NoHint class (Some r) s = hinted class r s ≡ false

take_none : (class : ℕ) (h : Option Reg) (pool : List ℕ) (s : Alloc) → NoHint class h s → NoneFree (get_or s.free class 0) pool → s.spares ≡ 0 → most_slots ≤ s.made
    → (take_of class h pool s).got ≡ None
unfolding take_of
take_none class None pool s q f z m = pool_none class _ s (last_none (get_or s.free class 0) pool f) z m
take_none class (Some r) pool s q f z m = rw q (pool_none class _ s (last_none (get_or s.free class 0) pool f) z m)

pub full_none : (class at end : ℕ) (h : Option Reg) (pool : List ℕ) (s : Alloc) → Good s → NoneLost s → Full class at pool s → NoHint class h (expire_of at s)
    → (new_place class at end h pool s).got ≡ None
full_none class at end h pool s g n f q =
    let m : (expire_of at s).made ≡ s.made = expire_made at s in
    let k : (expire_of at s).spares + slots_in (kept_of at (live s)) ≡ (expire_of at s).made = rw live-expire at (lost_expire at s n) in
    new_got class at end h pool s
    ∙ take_none class h pool (expire_of at s) q f.no_reg (omega (arith, f.all_held, g.capped)) (omega (arith, f.all_held, g.capped))
