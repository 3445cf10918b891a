-- No step brings a register in: one that is active or free after it was so before.
use mathlib.Core.Path.{◌≡◌, refl}
use mathlib.Core.Bool.{true}
use mathlib.Core.List.{List}
use Prim.Native.Nat.{ℕ, ◌+◌, ◌-◌, ◌≤◌}
use native.Mathlib.Omega.{arith}
use lib.Dec.{leb, ltb}
use lib.ListN.{get_or}
use Rattle.std.specs.Prelude.{Option, Some, None}
use Rattle.base.proofs.Numbers.{pick-both, pick_case}
use Rattle.place.specs.declared.Place.{Place}
use Rattle.place.specs.declared.Reg.{Reg}
use Rattle.place.specs.declared.Place.TheVariants.{Register}
use Rattle.place.specs.Places.{reg_of, found_of}
use Rattle.alloc.specs.declared.Entry.{Entry}
use Rattle.alloc.specs.declared.Alloc.{Alloc}
use Rattle.alloc.specs.declared.Taken.{Taken}
use Rattle.alloc.specs.State.{most_slots, live, with_slots}
use Rattle.alloc.specs.Allocation.{expire_of, is_free, take_reg, last_free, take_slot, from_pool, hinted, take_of, enter, new_place, place_of, place_again, pin_of}
use Rattle.alloc.specs.Good.{same, free_of, times, Good}
use Rattle.alloc.proofs.Counts.{expire-times, entered-times, take_free}
use Rattle.alloc.proofs.Few.{room}
use Rattle.alloc.proofs.Pool.{IsIn, last_in}
use Rattle.alloc.proofs.Keeps.{PendingFor, pending_room, pending_reg, take_ok, good_expire, found_free, hinted_free}

module _ (q : Reg) where
  abbrev held : Alloc → ℕ
  held s = times (Register q) s

  abbrev same_got : Option Place → ℕ
  same_got (Some p) = same (Register q) p
  same_got None = 0

  abbrev held_in : Taken → ℕ
  held_in t = held t.state + same_got t.got

  pub regs_expire : (at : ℕ) (s : Alloc) → Good s → held (expire_of at s) ≤ held s
  regs_expire at s g = expire-times (Register q) at s g.shape (omega (arith, room s g, g.capped))

  slots_same : (n k : ℕ) (s : Alloc) → free_of (Register q) (with_slots s.spare n k s) ≡ free_of (Register q) s
  unfolding free_of is_free
  slots_same n k s = refl

  slot_regs : (s : Alloc) → held_in (take_slot s) ≤ held s
  unfolding take_slot
  slot_regs s =
      pick-both (λ (t : Taken). held_in t ≤ held s) (ltb 0 s.spares) _ _ (omega (arith, slots_same (s.spares - 1) s.made s))
      (pick-both (λ (t : Taken). held_in t ≤ held s) (leb most_slots s.made) _ _ (omega arith)
      (omega (arith, slots_same s.spares (s.made + 1) s)))

  live_same : (r : Reg) (s : Alloc) → live (take_reg r s) ≡ live s
  unfolding take_reg
  live_same r s = refl

  reg_regs : (r : Reg) (s : Alloc) → Good s → is_free r s ≡ true → held (take_reg r s) + same (Register q) (Register r) ≤ held s
  reg_regs r s g f = rw live_same (omega (arith, take_free (Register q) r s g.shape f))

  pool_regs : (class : ℕ) (f : Option ℕ) (s : Alloc) → Good s → IsIn (get_or s.free class 0) f → held_in (from_pool class f s) ≤ held s
  unfolding from_pool
  pool_regs class (Some r) s g h = reg_regs (reg_of class r) s g (found_free class r s g h)
  pool_regs class None s g h = slot_regs s

  take_regs : (class : ℕ) (h : Option Reg) (pool : List ℕ) (s : Alloc) → Good s → held_in (take_of class h pool s) ≤ held s
  unfolding take_of
  take_regs class None pool s g =
      pool_regs class (last_free (get_or s.free class 0) pool) s g (last_in (get_or s.free class 0) pool)
  take_regs class (Some r) pool s g =
      pick_case (λ (t : Taken). held_in t ≤ held s) (hinted class r s) _ _ (λ e. reg_regs r s g (hinted_free class r s e))
      (λ e. pool_regs class (last_free (get_or s.free class 0) pool) s g (last_in (get_or s.free class 0) pool))

  enter_regs : (end : ℕ) (before s : Alloc) (x : Option Place) (n : ℕ) → PendingFor s x → held before ≤ n → held s + same_got x ≤ n → held (enter end before s x).state ≤ n
  unfolding enter
  enter_regs end before s (Some p) n r b h =
      let e : Entry = record { end = end; place = p } in
      omega (arith, entered-times (Register q) e s (omega (arith, pending_room e s r, r.shape.actives)))
  enter_regs end before s None n r b h = b

  pub regs_new : (class at end : ℕ) (h : Option Reg) (pool : List ℕ) (s : Alloc) → Good s → held (new_place class at end h pool s).state ≤ held s
  unfolding new_place
  regs_new class at end h pool s g =
      let x : Alloc = expire_of at s in
      let t : Taken = take_of class h pool x in
      let gx : Good x = good_expire at s g in
      enter_regs end s t.state t.got (held s) (take_ok class h pool x gx) (omega arith)
      (omega (arith, take_regs class h pool x gx, regs_expire at s g))

  again_regs : (s : Alloc) (f : Option Place) (new : Taken) → held new.state ≤ held s → held (place_again s f new).state ≤ held s
  again_regs s (Some p) new h = omega arith
  again_regs s None new h = h

  pub regs_place : (map : List ℕ) (id class at end : ℕ) (h : Option Reg) (pool : List ℕ) (s : Alloc) → Good s
      → held (place_of map id class at end h pool s).state ≤ held s
  unfolding place_of
  regs_place map id class at end h pool s g =
      again_regs s (found_of (get_or map id 0)) (new_place class at end h pool s) (regs_new class at end h pool s g)

  pub regs_pin : (r : Reg) (end : ℕ) (s : Alloc) → Good s → held (pin_of r end s) ≤ held s
  unfolding pin_of
  regs_pin r end s g =
      let e : Entry = record { end = end; place = Register r } in
      pick_case (λ (t : Alloc). held t ≤ held s) (is_free r s) _ _
      (λ f.
      let k = pending_reg r s g f in
      omega (
        arith,
        entered-times (Register q) e (take_reg r s) (omega (arith, pending_room e (take_reg r s) k, k.shape.actives)),
        reg_regs r s g f,
      ))
      (λ f. omega arith)
