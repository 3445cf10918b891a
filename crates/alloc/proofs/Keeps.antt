-- A good state stays good: through expiry, taking a place, entering it, and pinning.
use mathlib.Core.Path.{◌≡◌, refl, sym, ap, ◌∙◌, subst}
use mathlib.Core.Logic.{⊎_elim}
use mathlib.Core.Bool.{Bool, true, false}
use mathlib.Core.List.{List, [], ◌∷◌, ◌++◌}
use Prim.Native.Nat.{ℕ, zero, suc, ◌+◌, ◌-◌, ◌^◌, ◌≤◌, ◌<◌}
use native.Mathlib.Omega.{arith}
use lib.Dec.{leb, ltb, eqb}
use lib.ListN.{length, get_or, length-append, length-take, length-replicate, get_or-eq_default}
use lib.Seq.{length-take-le}
use lib.Pow.{pow_pos}
use borrow.Author.Tests.{ltb-true, leb-false, eqb-true, eqb-false}
use Rattle.std.specs.Prelude.{Option, Some, None}
use Rattle.base.specs.Choice.{pick}
use Rattle.base.specs.Masks.{has_bit}
use Rattle.base.proofs.Masks.{has_none}
use Rattle.base.proofs.Numbers.{lt?, pick_case, pick-both}
use Rattle.place.specs.declared.Reg.{Reg}
use Rattle.place.specs.declared.Reg.TheVariants.{Gpr, Fpr}
use Rattle.place.specs.declared.Place.{Place}
use Rattle.place.specs.declared.Place.TheVariants.{Slot, Register}
use Rattle.place.specs.Places.{class_of, index_of, reg_of, found_of}
use Rattle.alloc.specs.declared.Entry.{Entry}
use Rattle.alloc.specs.declared.Alloc.{Alloc}
use Rattle.alloc.specs.declared.Taken.{Taken}
use Rattle.alloc.specs.State.{most_active, most_slots, live, with_slots, mask_of, fresh_of, empty_entry}
use Rattle.alloc.specs.Allocation.{kept_of, gone_of, expire_of, is_free, take_reg, last_free, take_slot, from_pool, hinted, take_of, entered, enter, new_place, place_of, place_again, pin_of}
use Rattle.alloc.specs.Good.{bit, same, occurs, stacked, free_of, times, Shaped, Known, Good}
use Rattle.alloc.proofs.Arrays.{length_over}
use Rattle.alloc.proofs.Expiry.{length-kept, slots_in, slots_gone, expire_made, expire_spares, expire-count}
use Rattle.alloc.proofs.Pool.{IsIn, last_in, mask_lt}
use Rattle.alloc.proofs.Counts.{bit_le, occurs-append, occurs_one, free_low, shaped_all, shaped_reg, shaped_slots, shaped_entered, expire-times, entered-times, take_free, pop_free, new_free}
use Rattle.alloc.proofs.Few.{few, room}

-- ---- a fresh state
mask_pair : (a b class : ℕ) → a < 2 ^ 64 → b < 2 ^ 64 → get_or (a ∷ b ∷ []) class 0 < 2 ^ 64
mask_pair a b zero h k = h
mask_pair a b (suc zero) h k = k
mask_pair a b (suc (suc n)) h k = pow_pos 64

shaped_fresh : (gprs fprs : List ℕ) → Shaped (fresh_of gprs fprs)
unfolding fresh_of
shaped_fresh gprs fprs =
    record {
      actives = length-replicate most_active empty_entry;
      frees = refl;
      stack = length-replicate {A = ℕ} most_slots 0;
      masks = λ class. mask_pair (mask_of 0 gprs) (mask_of 0 fprs) class (mask_lt 0 gprs (pow_pos 64)) (mask_lt 0 fprs (pow_pos 64));
    }

pub fresh-times : (gprs fprs : List ℕ) (p : Place) → times p (fresh_of gprs fprs) ≡ free_of p (fresh_of gprs fprs)
unfolding fresh_of occurs
fresh-times gprs fprs p = omega arith

fresh-slot : (gprs fprs : List ℕ) (k : ℕ) → free_of (Slot k) (fresh_of gprs fprs) ≡ 0
unfolding fresh_of free_of stacked
fresh-slot gprs fprs k = refl

pub free_reg_lem : (r : Reg) (s : Alloc) → free_of (Register r) s ≡ bit (is_free r s)
unfolding free_of
free_reg_lem r s = refl

pub bit-true : (b : Bool) → 0 < bit b → b ≡ true
bit-true true h = refl
bit-true false h = absurd (omega arith)

fresh-once : (gprs fprs : List ℕ) (p : Place) → times p (fresh_of gprs fprs) ≤ 1
fresh-once gprs fprs (Slot k) = omega (arith, fresh-times gprs fprs (Slot k), fresh-slot gprs fprs k)
fresh-once gprs fprs (Register r) =
    let s : Alloc = fresh_of gprs fprs in
    omega (arith, fresh-times gprs fprs (Register r), free_reg_lem r s, bit_le (is_free r s))

fresh-known : (gprs fprs : List ℕ) (p : Place) → 0 < times p (fresh_of gprs fprs) → Known 0 p
fresh-known gprs fprs (Slot k) l = absurd (omega (arith, fresh-times gprs fprs (Slot k), fresh-slot gprs fprs k))
fresh-known gprs fprs (Register r) l =
    let s : Alloc = fresh_of gprs fprs in
    free_low r s (shaped_fresh gprs fprs)
    (bit-true (is_free r s) (omega (arith, fresh-times gprs fprs (Register r), free_reg_lem r s)))

pub good_fresh : (gprs fprs : List ℕ) → Good (fresh_of gprs fprs)
unfolding fresh_of
good_fresh gprs fprs =
    record {
      shape = shaped_fresh gprs fprs;
      within = omega arith;
      spared = omega arith;
      capped = omega arith;
      once = fresh-once gprs fprs;
      known = fresh-known gprs fprs;
    }

-- ---- expiry
pub shaped_expire : (at : ℕ) (s : Alloc) → Shaped s → s.count ≤ most_active → Shaped (expire_of at s)
unfolding expire_of
shaped_expire at s h l =
    let t = shaped_all (gone_of at (live s)) s h in
    record {
      actives = length_over (kept_of at (live s)) s.active
          (omega (arith, length-kept at (live s), length-take s.count s.active, h.actives))
          ∙ h.actives;
      frees = t.frees;
      stack = t.stack;
      masks = t.masks;
    }

pub good_expire : (at : ℕ) (s : Alloc) → Good s → Good (expire_of at s)
good_expire at s g =
    let r : s.spares + slots_in (live s) ≤ s.made = room s g in
    let t : (p : Place) → times p (expire_of at s) ≤ times p s =
    λ p. expire-times p at s g.shape (omega (arith, g.capped)) in
    record {
      shape = shaped_expire at s g.shape g.within;
      within = omega (arith, expire-count at s, g.within);
      spared = omega (arith, expire_spares at s, slots_gone at (live s), g.capped);
      capped = rw expire_made g.capped;
      once = λ p. omega (arith, t p, g.once p);
      known = λ p l. rw expire_made (g.known p (omega (arith, t p)));
    }

-- ---- a state from which the place p was taken, and not entered yet
pub record Pending (p : Place) (s : Alloc) : Type 0 where
  pub shape : Shaped s
  pub within : s.count ≤ most_active
  pub spared : s.spares ≤ most_slots
  pub capped : s.made ≤ most_slots
  pub once : (q : Place) → times q s + same q p ≤ 1
  pub known : (q : Place) → 0 < times q s + same q p → Known s.made q

pub known_more : (a b : ℕ) (p : Place) → a ≤ b → Known a p → Known b p
known_more a b (Slot k) l h = omega arith
known_more a b (Register r) l h = h

-- ---- entering: there is room for the entry, since at most 256 places can be different
pub pending_room : (e : Entry) (s : Alloc) → Pending e.place s → s.count < most_active
pending_room e s r =
    let o : (p : Place) → occurs p (live s ++ e ∷ []) ≡ occurs p (live s) + same p e.place =
    λ p. occurs-append p (live s) (e ∷ []) ∙ ap (λ (n : ℕ). occurs p (live s) + n) (occurs_one p e) in
    omega (
      arith,
      few (live s ++ e ∷ []) (λ p l. known_more s.made most_slots p r.capped (r.known p (omega (arith, o p))))
          (λ p. omega (arith, o p, r.once p)),
      length-append (live s) (e ∷ []),
      length-take-le s.count s.active (omega (arith, r.shape.actives, r.within)),
    )

pub good_entered : (e : Entry) (s : Alloc) → Pending e.place s → Good (entered e s)
good_entered e s r =
    let c : s.count < most_active = pending_room e s r in
    let l : s.count < length s.active = omega (arith, r.shape.actives) in
    record {
      shape = shaped_entered e s r.shape;
      within = omega arith;
      spared = r.spared;
      capped = r.capped;
      once = λ p. omega (arith, entered-times p e s l, r.once p);
      known = λ p h. r.known p (omega (arith, entered-times p e s l));
    }

-- ---- taking a register that is free
pub pending_reg : (r : Reg) (s : Alloc) → Good s → is_free r s ≡ true → Pending (Register r) (take_reg r s)
unfolding take_reg
pending_reg r s g f =
    record {
      shape = shaped_reg r s g.shape;
      within = g.within;
      spared = g.spared;
      capped = g.capped;
      once = λ q. omega (arith, take_free q r s g.shape f, g.once q);
      known = λ q l. g.known q (omega (arith, take_free q r s g.shape f));
    }

-- ---- taking a slot: the top free one
pending_top : (s : Alloc) → Good s → 0 < s.spares
    → Pending (Slot (get_or s.spare (s.spares - 1) 0)) (with_slots s.spare (s.spares - 1) s.made s)
pending_top s g h =
    let k : ℕ = get_or s.spare (s.spares - 1) 0 in
    let f : (p : Place) → free_of p (with_slots s.spare (s.spares - 1) s.made s) + same p (Slot k) ≡ free_of p s =
    λ p. pop_free p s g.shape h g.spared in
    record {
      shape = shaped_slots (s.spares - 1) s.made s g.shape;
      within = g.within;
      spared = omega (arith, g.spared);
      capped = g.capped;
      once = λ q. omega (arith, f q, g.once q);
      known = λ q l. g.known q (omega (arith, f q));
    }

-- a new one
new_case : (k n t : ℕ) (b : Bool) → eqb k n ≡ b → t ≤ 1 → (0 < t → k < n) → t + bit b ≤ 1
new_case k n zero true e o m = omega arith
new_case k n (suc t) true e o m = omega (arith, m (omega arith), eqb-true k n e)
new_case k n t false e o m = omega arith

new-once : (q : Place) (s : Alloc) → Good s → times q s + same q (Slot s.made) ≤ 1
new-once (Slot k) s g =
    new_case k s.made (times (Slot k) s) (eqb k s.made) refl (g.once (Slot k)) (g.known (Slot k))
new-once (Register r) s g = omega (arith, g.once (Register r))

new-known_case : (k n t : ℕ) (b : Bool) → eqb k n ≡ b → (0 < t → k < n) → 0 < t + bit b → k < n + 1
new-known_case k n t true e m l = omega (arith, eqb-true k n e)
new-known_case k n t false e m l = omega (arith, m (omega arith))

new-known : (q : Place) (s : Alloc) → Good s → 0 < times q s + same q (Slot s.made) → Known (s.made + 1) q
new-known (Slot k) s g l = new-known_case k s.made (times (Slot k) s) (eqb k s.made) refl (g.known (Slot k)) l
new-known (Register r) s g l = g.known (Register r) (omega arith)

pending_new : (s : Alloc) → Good s → s.made < most_slots → Pending (Slot s.made) (with_slots s.spare s.spares (s.made + 1) s)
pending_new s g h =
    record {
      shape = shaped_slots s.spares (s.made + 1) s g.shape;
      within = g.within;
      spared = g.spared;
      capped = omega arith;
      once = λ q. omega (arith, new_free q (s.made + 1) s, new-once q s g);
      known = λ q l. new-known q s g (omega (arith, new_free q (s.made + 1) s));
    }

-- ---- what a taking answers
abbrev pub PendingFor : Alloc → Option Place → Type 0
PendingFor s (Some p) = Pending p s
PendingFor s None = Unit

abbrev pub TakenOk : Taken → Type 0
TakenOk t = PendingFor t.state t.got

slot_ok : (s : Alloc) → Good s → TakenOk (take_slot s)
unfolding take_slot
slot_ok s g =
    pick_case TakenOk (ltb 0 s.spares) _ _ (λ e. pending_top s g (ltb-true 0 s.spares e))
    (λ e.
    pick_case TakenOk (leb most_slots s.made) _ _ (λ f. tt)
    (λ f. pending_new s g (leb-false most_slots s.made f)))

class_reg : (class r : ℕ) → class < 2 → class_of (reg_of class r) ≡ class
class_reg class r h =
    pick_case (λ (x : Reg). class_of x ≡ class) (eqb class 0) (Gpr r) (Fpr r) (λ e. sym (eqb-true class 0 e))
    (λ e. omega (arith, eqb-false class 0 e))

index_reg : (class r : ℕ) → index_of (reg_of class r) ≡ r
index_reg class r = pick-both (λ (x : Reg). index_of x ≡ r) (eqb class 0) (Gpr r) (Fpr r) refl refl

-- what is found in the pool of a class is free; a class past the two has no mask
pub found_free : (class r : ℕ) (s : Alloc) → Good s → has_bit (get_or s.free class 0) r ≡ true → is_free (reg_of class r) s ≡ true
unfolding is_free
found_free class r s g h =
    ⊎_elim
    (λ (l : class < 2). rw (class_reg class r l, index_reg) h)
    (λ (l : 2 ≤ class).
    let z : get_or s.free class 0 ≡ 0 = get_or-eq_default s.free 0 {n = class} (omega (arith, g.shape.frees)) in
    let n : true ≡ false = sym h ∙ ap (λ (m : ℕ). has_bit m r) z ∙ has_none r in
    absurd (let q : ◌≡◌ {A = ℕ} 0 1 = cc in omega arith))
    (lt? class 2)

pool_ok : (class : ℕ) (f : Option ℕ) (s : Alloc) → Good s → IsIn (get_or s.free class 0) f → TakenOk (from_pool class f s)
unfolding from_pool
pool_ok class (Some r) s g h = pending_reg (reg_of class r) s g (found_free class r s g h)
pool_ok class None s g h = slot_ok s g

pub hinted_free : (class : ℕ) (r : Reg) (s : Alloc) → hinted class r s ≡ true → is_free r s ≡ true
unfolding hinted
hinted_free class r s e = go (eqb (class_of r) class) (is_free r s) e
  where
    go : (a b : Bool) → pick a b false ≡ true → b ≡ true
    go true b e = e
    go false b e = absurd (let z : ◌≡◌ {A = ℕ} 0 1 = cc in omega arith)

pub take_ok : (class : ℕ) (h : Option Reg) (pool : List ℕ) (s : Alloc) → Good s → TakenOk (take_of class h pool s)
unfolding take_of
take_ok class None pool s g =
    pool_ok class (last_free (get_or s.free class 0) pool) s g (last_in (get_or s.free class 0) pool)
take_ok class (Some r) pool s g =
    pick_case TakenOk (hinted class r s) _ _ (λ e. pending_reg r s g (hinted_free class r s e))
    (λ e. pool_ok class (last_free (get_or s.free class 0) pool) s g (last_in (get_or s.free class 0) pool))

-- a place that was found leaves room for its entry
pub taken_room : (class : ℕ) (h : Option Reg) (pool : List ℕ) (s : Alloc) (t : Taken) (p : Place) → Good s → t ≡ take_of class h pool s → t.got ≡ Some p
    → t.state.count < most_active
taken_room class h pool s t p g e q =
    let k : TakenOk t = rw e (take_ok class h pool s g) in
    pending_room (record { end = 0; place = p }) t.state (subst (PendingFor t.state) q k)

good_enter : (end : ℕ) (before s : Alloc) (x : Option Place) → Good before → PendingFor s x → Good (enter end before s x).state
unfolding enter
good_enter end before s (Some p) g r = good_entered (record { end = end; place = p }) s r
good_enter end before s None g r = g

-- ---- a placement, at any clock
pub good_new : (class at end : ℕ) (h : Option Reg) (pool : List ℕ) (s : Alloc) → Good s → Good (new_place class at end h pool s).state
unfolding new_place
good_new class at end h pool s g =
    let t : Taken = take_of class h pool (expire_of at s) in
    good_enter end s t.state t.got g (take_ok class h pool (expire_of at s) (good_expire at s g))

good_again : (s : Alloc) (f : Option Place) (new : Taken) → Good s → Good new.state → Good (place_again s f new).state
good_again s (Some p) new g h = g
good_again s None new g h = h

pub good_place : (map : List ℕ) (id class at end : ℕ) (h : Option Reg) (pool : List ℕ) (s : Alloc) → Good s
    → Good (place_of map id class at end h pool s).state
unfolding place_of
good_place map id class at end h pool s g =
    good_again s (found_of (get_or map id 0)) (new_place class at end h pool s) g (good_new class at end h pool s g)

-- ---- a pin
pub pin_room : (r : Reg) (s : Alloc) → Good s → is_free r s ≡ true → (take_reg r s).count < most_active
pin_room r s g f = pending_room (record { end = 0; place = Register r }) (take_reg r s) (pending_reg r s g f)

pub good_pinned : (r : Reg) (end : ℕ) (s : Alloc) → Good s → is_free r s ≡ true
    → Good (entered (record { end = end; place = Register r }) (take_reg r s))
good_pinned r end s g f = good_entered (record { end = end; place = Register r }) (take_reg r s) (pending_reg r s g f)

pub good_pin : (r : Reg) (end : ℕ) (s : Alloc) → Good s → Good (pin_of r end s)
unfolding pin_of
good_pin r end s g = pick_case Good (is_free r s) _ _ (good_pinned r end s g) (λ f. g)
