-- What placing or pinning a value that has no place does to the walk: nothing, or one entry more, whose place no kept entry has.
use Prim.Native.Nat.{ℕ, ◌+◌, ◌-◌, ◌<◌, ◌≤◌}
use mathlib.Core.Bool.{Bool, true, false}
use mathlib.Core.List.{List, [], ◌∷◌}
use mathlib.Core.Logic.{◌⊎◌, inl, inr, ⊎_elim}
use mathlib.Core.Path.{◌≡◌, refl, sym, ap, ◌∙◌}
use native.Mathlib.Omega.{arith}
use lib.Dec.{leb, ltb, eqb}
use lib.ListN.{length, get_or, set}
use lib.Seq.{set_out, get_or-set_same, get_or-set_other}
use borrow.Author.Tests.{eqb-true, leb-false}
use Rattle.std.specs.Prelude.{Option, Some, None}
use Rattle.base.proofs.Numbers.{pick-both, pick_case, lt?}
use Rattle.place.specs.declared.Reg.{Reg}
use Rattle.place.specs.declared.Reg.TheVariants.{Gpr, Fpr}
use Rattle.place.specs.declared.Place.{Place}
use Rattle.place.specs.declared.Place.TheVariants.{Slot, Register}
use Rattle.place.specs.Places.{reg_of, number_of, place_of, word_of, found_of, Fits}
use Rattle.place.proofs.Places.{found_none, place-number}
use Rattle.alloc.specs.declared.Entry.{Entry}
use Rattle.alloc.specs.declared.Alloc.{Alloc}
use Rattle.alloc.specs.declared.Taken.{Taken}
use Rattle.alloc.specs.State.{most_slots, live}
use Rattle.alloc.specs.Allocation.{kept_of, expire_of, is_free, take_reg, last_free, take_slot, from_pool, hinted, take_of, enter, new_place, map_entered, pin_of}
use Rattle.alloc.specs.Good.{bit, same, occurs, times, Good}
use Rattle.alloc.proofs.Expiry.{expire_made, kept_last}
use Rattle.alloc.proofs.Counts.{same_self, occurs-append, occurs_one}
use Rattle.alloc.proofs.Keeps.{good_new, good_pin}
use Rattle.alloc.proofs.Regs.{regs_new, regs_pin}
use Rattle.alloc.proofs.Outcome.{entry, known_fits, Entered, Outcome, place_none, map_none, place-outcome, pin-outcome, pin-map}
use Rattle.input.specs.Records.{end_of}
use Rattle.assign.specs.Walk.{Walk, walk, wish_of, place_step, pin_step}

abbrev pub word : Walk → ℕ → ℕ
word w v = get_or w.map v 0

-- ---- no slot that was made is unmade
slot_made : (s : Alloc) → s.made ≤ (take_slot s).state.made
unfolding take_slot
slot_made s =
    pick-both (λ (t : Taken). s.made ≤ t.state.made) (ltb 0 s.spares) _ _ (omega arith)
    (pick-both (λ (t : Taken). s.made ≤ t.state.made) (leb most_slots s.made) _ _ (omega arith) (omega arith))

reg_made : (r : Reg) (s : Alloc) → (take_reg r s).made ≡ s.made
unfolding take_reg
reg_made r s = refl

pool_made : (class : ℕ) (f : Option ℕ) (s : Alloc) → s.made ≤ (from_pool class f s).state.made
unfolding from_pool
pool_made class (Some r) s = omega (arith, reg_made (reg_of class r) s)
pool_made class None s = slot_made s

take_made : (class : ℕ) (h : Option Reg) (pool : List ℕ) (s : Alloc) → s.made ≤ (take_of class h pool s).state.made
unfolding take_of
take_made class None pool s = pool_made class (last_free (get_or s.free class 0) pool) s
take_made class (Some r) pool s =
    pick-both (λ (t : Taken). s.made ≤ t.state.made) (hinted class r s) _ _ (omega (arith, reg_made r s))
    (pool_made class (last_free (get_or s.free class 0) pool) s)

enter_made : (end : ℕ) (before s : Alloc) (x : Option Place) → before.made ≤ s.made → before.made ≤ (enter end before s x).state.made
unfolding enter
enter_made end before s (Some p) h = h
enter_made end before s None h = omega arith

pub new_made : (class at end : ℕ) (h : Option Reg) (pool : List ℕ) (s : Alloc) → s.made ≤ (new_place class at end h pool s).state.made
unfolding new_place
new_made class at end h pool s =
    let x : Alloc = expire_of at s in
    let t : Taken = take_of class h pool x in
    enter_made end s t.state t.got (omega (arith, take_made class h pool x, expire_made at s))

pub pin_made : (r : Reg) (end : ℕ) (s : Alloc) → s.made ≤ (pin_of r end s).made
unfolding pin_of
pin_made r end s = pick-both (λ (t : Alloc). s.made ≤ t.made) (is_free r s) _ _ (omega (arith, reg_made r s)) (omega arith)

-- ---- what became of value v at row r, one way or the other
pub record Came (at v end : ℕ) (p : Place) (w w' : Walk) : Type 0 where
  pub entry : Entered at end p w.alloc w'.alloc
  pub map : w'.map ≡ set w.map v (word_of (Some p))

pub record Placed (at v end : ℕ) (w w' : Walk) : Type 0 where
  pub good : Good w'.alloc
  pub regs : (q : Reg) → times (Register q) w'.alloc ≤ times (Register q) w.alloc
  pub made : w.alloc.made ≤ w'.alloc.made
  pub came : ((w'.alloc ≡ w.alloc) × (w'.map ≡ w.map)) ⊎ ((p : Place) × Came at v end p w w')

new_came : (at v end : ℕ) (w : Walk) (s' : Alloc) (x : Option Place) → Outcome at end w.alloc s' x
    → ((s' ≡ w.alloc) × (map_entered w.map v x ≡ w.map))
    ⊎ ((p : Place) × Came at v end p w (walk s' (map_entered w.map v x) w.wish w.noted))
unfolding map_entered
new_came at v end w s' (Some p) o = inr (p, record { entry = o; map = refl })
new_came at v end w s' None o = inl (o, refl)

pub place-placed : (ws pool : List ℕ) (r v : ℕ) (w : Walk) → Good w.alloc → word w v ≡ 0 → Placed r v (end_of ws v) w (place_step ws pool r v w)
unfolding place_step
place-placed ws pool r v w g z =
    let e : found_of (word w v) ≡ None = found_none (word w v) z in
    let h : Option Reg = wish_of w v in
    let t : Taken = new_place 0 r (end_of ws v) h pool w.alloc in
    rw (place_none w.map v 0 r (end_of ws v) h pool w.alloc e, map_none w.map v 0 r (end_of ws v) h pool w.alloc e)
    (record {
      good = good_new 0 r (end_of ws v) h pool w.alloc g;
      regs = λ q. regs_new q 0 r (end_of ws v) h pool w.alloc g;
      made = new_made 0 r (end_of ws v) h pool w.alloc;
      came = new_came r v (end_of ws v) w t.state t.got (place-outcome 0 r (end_of ws v) h pool w.alloc g);
    })

pub pin-placed : (ws pool : List ℕ) (r k v : ℕ) (w : Walk) → Good w.alloc → word w v ≡ 0 → Placed r v (end_of ws v) w (pin_step ws pool r k v w)
unfolding pin_step
pin-placed ws pool r k v w g z =
    pick_case (Placed r v (end_of ws v) w) (is_free (Gpr k) w.alloc) _ _
    (λ f.
    record {
      good = good_pin (Gpr k) (end_of ws v) w.alloc g;
      regs = λ q. regs_pin q (Gpr k) (end_of ws v) w.alloc g;
      made = pin_made (Gpr k) (end_of ws v) w.alloc;
      came = inr (
        Register (Gpr k),
        record {
          entry = pin-outcome (Gpr k) r (end_of ws v) w.alloc g f;
          map = pin-map w.map v (Gpr k) w.alloc f;
        },
      );
    })
    (λ f. place-placed ws pool r v w g z)

-- ---- the same, said by the words of the map and by what an expiry would leave
abbrev pub Has : Walk → ℕ → Type 0
Has w v = word w v ≡ 0 → ⊥

-- the place of a word that is not 0
abbrev pub sits : ℕ → Place
sits x = place_of (x - 1)

pub word-sits : (p : Place) → Fits p → sits (word_of (Some p)) ≡ p
word-sits p h = let e : 1 + number_of p - 1 ≡ number_of p = omega arith in ap place_of e ∙ place-number p h

equal : (a b : ℕ) (t : Bool) → eqb a b ≡ t → 0 < bit t → a ≡ b
equal a b true e h = eqb-true a b e
equal a b false e h = absurd (omega arith)

pub same_is : (p q : Place) → 0 < same p q → p ≡ q
same_is (Slot a) (Slot b) h = ap Slot (equal a b (eqb a b) refl h)
same_is (Slot a) (Register b) h = absurd (omega arith)
same_is (Register a) (Slot b) h = absurd (omega arith)
same_is (Register (Gpr a)) (Register (Gpr b)) h = ap (λ (x : ℕ). Register (Gpr x)) (equal a b (eqb a b) refl h)
same_is (Register (Gpr a)) (Register (Fpr b)) h = absurd (omega arith)
same_is (Register (Fpr a)) (Register (Gpr b)) h = absurd (omega arith)
same_is (Register (Fpr a)) (Register (Fpr b)) h = ap (λ (x : ℕ). Register (Fpr x)) (equal a b (eqb a b) refl h)

-- an entry stands in what an expiry at t leaves of it: it lasts, and the place is its own
kept_one : (q : Place) (t end : ℕ) (p : Place) → 0 < occurs q (kept_of t (entry end p ∷ [])) → (t < end) × (q ≡ p)
unfolding kept_of occurs
kept_one q t end p h =
    pick_case (λ (l : List Entry). 0 < occurs q l → (t < end) × (q ≡ p)) (leb end t) [] (entry end p ∷ [])
    (λ e k. absurd (omega (arith, k))) (λ e k. (leb-false end t e, same_is q p (omega (arith, k, occurs_one q (entry end p))))) h

-- the place that v has now: none that lasts past the row had it
pub record Home (at v end : ℕ) (w w' : Walk) : Type 0 where
  pub place : Place
  pub is : word w' v ≡ word_of (Some place)
  pub fits : Fits place
  pub alone : occurs place (kept_of at (live w.alloc)) ≡ 0
  pub held : (t : ℕ) → at ≤ t → t < end → 0 < occurs place (kept_of t (live w'.alloc))

pub record Change (at v end : ℕ) (w w' : Walk) : Type 0 where
  pub good : Good w'.alloc
  pub regs : (q : Reg) → times (Register q) w'.alloc ≤ times (Register q) w.alloc
  pub made : w.alloc.made ≤ w'.alloc.made
  pub other : (u : ℕ) → (u ≡ v → ⊥) → word w' u ≡ word w u
  pub lasts : (t : ℕ) → at ≤ t → (q : Place) → occurs q (kept_of t (live w.alloc)) ≤ occurs q (kept_of t (live w'.alloc))
  pub mine : Has w' v → Home at v end w w'
  pub whose : (t : ℕ) → at ≤ t → (q : Place) → 0 < occurs q (kept_of t (live w'.alloc))
      → (0 < occurs q (kept_of t (live w.alloc))) ⊎ ((t < end) × (Has w' v → word w' v ≡ word_of (Some q)))

module _ (at v end : ℕ) (w w' : Walk) (z : word w v ≡ 0) (o : Placed at v end w w') where
  stayed : (w'.alloc ≡ w.alloc) × (w'.map ≡ w.map) → Change at v end w w'
  stayed e =
      record {
        good = o.good;
        regs = o.regs;
        made = o.made;
        other = λ u ne. ap (λ (m : List ℕ). get_or m u 0) e.1;
        lasts = λ t l q. rw e.0 (omega arith);
        mine = λ h. absurd (h (ap (λ (m : List ℕ). get_or m v 0) e.1 ∙ z));
        whose = λ t l q h. inl (rw e.0 at h);
      }

  module _ (p : Place) (c : Came at v end p w w') where
    count : (t : ℕ) → at ≤ t → (q : Place) → occurs q (kept_of t (live w'.alloc)) ≡ occurs q (kept_of t (live w.alloc)) + occurs q (kept_of t (entry end p ∷ []))
    count t l q = ap (occurs q) (c.entry.more t l) ∙ occurs-append q (kept_of t (live w.alloc)) (kept_of t (entry end p ∷ []))

    one : (t : ℕ) → t < end → 0 < occurs p (kept_of t (entry end p ∷ []))
    one t l = rw (kept_last t (entry end p) l) (omega (arith, same_self p, occurs_one p (entry end p)))

    -- an id past the map's end has no word still
    there : Has w' v → word w' v ≡ word_of (Some p)
    there h =
        ⊎_elim
        (λ (l : v < length w.map). rw c.map (get_or-set_same w.map v (word_of (Some p)) 0 l))
        (λ (l : length w.map ≤ v). absurd (h (rw (c.map, set_out w.map v (word_of (Some p)) l) z)))
        (lt? v (length w.map))

    came : Change at v end w w'
    came =
        record {
          good = o.good;
          regs = o.regs;
          made = o.made;
          other = λ u ne. rw c.map (get_or-set_other w.map v u (word_of (Some p)) 0 ne);
          lasts = λ t l q. omega (arith, count t l q);
          mine = λ h.
              record {
                place = p;
                is = there h;
                fits = known_fits p c.entry.known;
                alone = c.entry.alone;
                held = λ t l q. omega (arith, count t l p, one t q);
              };
          whose = λ t l q h.
              ⊎_elim
              (λ (k : 0 < occurs q (kept_of t (live w.alloc))). inl k)
              (λ (k : occurs q (kept_of t (live w.alloc)) ≤ 0).
              let m : (t < end) × (q ≡ p) = kept_one q t end p (omega (arith, count t l q)) in
              inr (m.0, λ g. there g ∙ ap (λ (x : Place). word_of (Some x)) (sym m.1)))
              (lt? 0 (occurs q (kept_of t (live w.alloc))));
        }

  pub changed : Change at v end w w'
  changed = ⊎_elim stayed (λ q. came q.0 q.1) o.came
