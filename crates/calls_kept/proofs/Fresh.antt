-- A value that is placed has a pool register or a slot made, though it may never be read, and no value that lasts past its row has that place.
use Prim.Native.Nat.{ℕ, ◌-◌, ◌<◌, ◌≤◌}
use mathlib.Core.List.{List, [], ◌∷◌}
use mathlib.Core.Logic.{⊎_elim}
use mathlib.Core.Path.{◌≡◌, refl, sym, ap, ◌∙◌, subst}
use native.Mathlib.Omega.{arith}
use lib.ListN.{length, get_or}
use lib.Seq.{set_out, get_or-set_same}
use Rattle.std.specs.Prelude.{Option, Some, None}
use Rattle.base.proofs.Numbers.{lt?}
use Rattle.place.specs.declared.Reg.{Reg}
use Rattle.place.specs.declared.Place.{Place}
use Rattle.place.specs.declared.Place.TheVariants.{Register}
use Rattle.place.specs.Places.{word_of}
use Rattle.place.proofs.Places.{found_none}
use Rattle.alloc.specs.declared.Alloc.{Alloc}
use Rattle.alloc.specs.declared.Taken.{Taken}
use Rattle.alloc.specs.State.{live}
use Rattle.alloc.specs.Allocation.{kept_of, expire_of, take_of, enter, new_place, map_entered}
use Rattle.alloc.specs.Good.{occurs, times, Good}
use Rattle.alloc.proofs.Counts.{same_self, occurs-append, occurs_one, live-entered}
use Rattle.alloc.proofs.Keeps.{Pending, PendingFor, pending_room, take_ok, good_expire}
use Rattle.alloc.proofs.Outcome.{entry, new_got, place_none, map_none}
use Rattle.input.specs.Records.{end_of}
use Rattle.rows.specs.Rows.{Ref}
use Rattle.assign.specs.Walk.{Walk, wish_of, place_step, pool_of}
use Rattle.sharing.proofs.Defined.{Not}
use Rattle.sharing.proofs.Placing.{word, Has, sits, word-sits, Home, Change, place-placed, changed}
use Rattle.sharing.proofs.Safe.{Housed, Safe, housed_place}

-- ---- a place that is got has an active entry, even one that ends at once
entered_in : (end : ℕ) (p : Place) (t : Alloc) → Pending p t → 0 < occurs p (live (enter end t t (Some p)).state)
unfolding enter
entered_in end p t h =
    rw (live-entered (entry end p) t (omega (arith, pending_room (entry end p) t h, h.shape.actives)))
    (omega (arith, occurs-append p (live t) (entry end p ∷ []), occurs_one p (entry end p), same_self p))

enter_in : (end : ℕ) (s t : Alloc) (x : Option Place) (p : Place) → PendingFor t x → x ≡ Some p → 0 < occurs p (live (enter end s t x).state)
unfolding enter
enter_in end s t (Some q) p h e =
    let f : q ≡ p = cc in
    subst (λ (y : Place). 0 < occurs y (live (enter end s t (Some q)).state)) f (entered_in end q t h)
enter_in end s t None p h e = absurd (let z : ◌≡◌ {A = ℕ} 0 1 = cc in omega arith)

new_in : (class at end : ℕ) (h : Option Reg) (pool : List ℕ) (s : Alloc) (p : Place) → Good s → (new_place class at end h pool s).got ≡ Some p
    → 0 < occurs p (live (new_place class at end h pool s).state)
unfolding new_place
new_in class at end h pool s p g e =
    let t : Taken = take_of class h pool (expire_of at s) in
    enter_in end s t.state t.got p (take_ok class h pool (expire_of at s) (good_expire at s g)) (sym (new_got class at end h pool s) ∙ e)

-- ---- a word that a placement gave is that of the place got
record Gave (map : List ℕ) (v : ℕ) (x : Option Place) : Type 0 where
  pub place : Place
  pub got : x ≡ Some place
  pub is : get_or (map_entered map v x) v 0 ≡ word_of (Some place)

gave : (map : List ℕ) (v : ℕ) (x : Option Place) → get_or map v 0 ≡ 0 → (get_or (map_entered map v x) v 0 ≡ 0 → ⊥) → Gave map v x
unfolding map_entered
gave map v (Some p) z h =
    record {
      place = p;
      got = refl;
      is = ⊎_elim
          (λ (l : v < length map). get_or-set_same map v (word_of (Some p)) 0 l)
          (λ (l : length map ≤ v). absurd (h (rw (set_out map v (word_of (Some p)) l) z)))
          (lt? v (length map));
    }
gave map v None z h = absurd (h z)

-- the place of a value just placed
record Lives (w : Walk) (v : ℕ) : Type 0 where
  pub place : Place
  pub is : word w v ≡ word_of (Some place)
  pub held : 0 < occurs place (live w.alloc)

placed_lives : (ws pool : List ℕ) (r v : ℕ) (w : Walk) → Good w.alloc → word w v ≡ 0 → Has (place_step ws pool r v w) v → Lives (place_step ws pool r v w) v
unfolding place_step
placed_lives ws pool r v w g z =
    let e = found_none (word w v) z in
    let h : Option Reg = wish_of w v in
    let t : Taken = new_place 0 r (end_of ws v) h pool w.alloc in
    rw (place_none w.map v 0 r (end_of ws v) h pool w.alloc e, map_none w.map v 0 r (end_of ws v) h pool w.alloc e)
    (λ (has : get_or (map_entered w.map v t.got) v 0 ≡ 0 → ⊥).
    let k : Gave w.map v t.got = gave w.map v t.got z has in
    record { place = k.place; is = k.is; held = new_in 0 r (end_of ws v) h pool w.alloc k.place g k.got })

-- ---- one value more
module _ (n : ℕ) (ws : List ℕ) (r v : ℕ) (done : List Ref) (w : Walk) (s : Safe n ws r done w) (new : Not v done) where
  abbrev then : Walk
  then = place_step ws (pool_of (n - 2)) r v w

  pub fresh_change : Change r v (end_of ws v) w then
  fresh_change = changed r v (end_of ws v) w then (s.blank v new) (place-placed ws (pool_of (n - 2)) r v w s.good (s.blank v new))

  pub fresh_alone : Has then v → occurs (sits (word then v)) (kept_of r (live w.alloc)) ≡ 0
  fresh_alone h =
      let m : Home r v (end_of ws v) w then = fresh_change.mine h in
      let e : sits (word then v) ≡ m.place = ap sits m.is ∙ word-sits m.place m.fits in
      rw e m.alone

  pub fresh_housed : Has then v → Housed n then.alloc.made (word then v)
  fresh_housed h =
      let k : Lives then v = placed_lives ws (pool_of (n - 2)) r v w s.good (s.blank v new) h in
      let t : 0 < times k.place then.alloc = omega (arith, k.held) in
      subst (Housed n then.alloc.made) (sym k.is)
      (housed_place n then.alloc.made k.place (fresh_change.good.known k.place t)
      (λ q e.
      let l : 0 < times (Register q) then.alloc = subst (λ (p : Place). 0 < times p then.alloc) e t in
      s.pooled q (omega (arith, fresh_change.regs q))))
