-- What holds after some rows, at a clock: each value that lasts past the clock sits in an active entry with its place, each such entry is a
-- value's, and no two values whose intervals overlap share a place.
use Prim.Native.Nat.{ℕ, ◌+◌, ◌-◌, ◌<◌, ◌≤◌}
use mathlib.Core.List.Memᴰ
use mathlib.Core.List.{List, [], ◌∷◌, ◌++◌}
use mathlib.Core.Logic.{⊎_elim}
use mathlib.Core.Path.{◌≡◌, refl, sym, ap, ◌∙◌, subst}
use native.Mathlib.Omega.{arith}
use Rattle.std.specs.Prelude.{Some}
use Rattle.place.specs.declared.Reg.{Reg}
use Rattle.place.specs.declared.Reg.TheVariants.{Gpr, Fpr}
use Rattle.place.specs.declared.Place.{Place}
use Rattle.place.specs.declared.Place.TheVariants.{Slot, Register}
use Rattle.place.specs.Places.{word_of}
use Rattle.alloc.specs.State.{live}
use Rattle.alloc.specs.Allocation.{kept_of}
use Rattle.alloc.specs.Good.{occurs, times, Known, Good}
use Rattle.alloc.proofs.Counts.{occurs-kept}
use Rattle.input.specs.Records.{end_of}
use Rattle.rows.specs.Rows.{Ref, ref}
use Rattle.assign.specs.Walk.{Walk}
use Rattle.sharing.proofs.Defined.{Did, Not, one_row, one_value}
use Rattle.sharing.proofs.Placing.{word, Has, sits, word-sits, Home, Change}

-- a register of the pool of a machine with n registers
abbrev pub OfPool : ℕ → Reg → Type 0
OfPool n (Gpr r) = r < n - 2
OfPool n (Fpr r) = ⊥

-- the word of one, or of a slot that was made
pub data Housed (n made : ℕ) : ℕ → Type 0 where
  in-register : (r : ℕ) → r < n - 2 → Housed n made (1 + r)
  in-slot : (k : ℕ) → k < made → Housed n made (257 + k)

-- the value of an entry with place p that lasts past t
pub record Owner (ws : List ℕ) (done : List Ref) (w : Walk) (t : ℕ) (p : Place) : Type 0 where
  pub row : ℕ
  pub value : ℕ
  pub did : Did row value done
  pub until : t < end_of ws value
  pub there : Has w value → word w value ≡ word_of (Some p)

pub record Safe (n : ℕ) (ws : List ℕ) (clock : ℕ) (done : List Ref) (w : Walk) : Type 0 where
  pub good : Good w.alloc
  pub pooled : (q : Reg) → 0 < times (Register q) w.alloc → OfPool n q
  pub blank : (v : ℕ) → Not v done → word w v ≡ 0
  pub housed : (r v : ℕ) → Did r v done → r < end_of ws v → Has w v → Housed n w.alloc.made (word w v)
  pub held : (r v : ℕ) → Did r v done → Has w v → (t : ℕ) → clock ≤ t → t < end_of ws v → 0 < occurs (sits (word w v)) (kept_of t (live w.alloc))
  pub owner : (t : ℕ) → clock ≤ t → (p : Place) → 0 < occurs p (kept_of t (live w.alloc)) → Owner ws done w t p
  pub apart : (r v r' v' : ℕ) → Did r v done → Did r' v' done → (v ≡ v' → ⊥) → r < end_of ws v' → r' < end_of ws v → Has w v → word w v ≡ word w v' → ⊥

-- the clock goes on
pub later : (n : ℕ) (ws : List ℕ) (clock clock' : ℕ) (done : List Ref) (w : Walk) → clock ≤ clock' → Safe n ws clock done w → Safe n ws clock' done w
later n ws clock clock' done w l s =
    record {
      good = s.good;
      pooled = s.pooled;
      blank = s.blank;
      housed = s.housed;
      held = λ r v d h t k q. s.held r v d h t (omega arith) q;
      owner = λ t k p h. s.owner t (omega arith) p h;
      apart = s.apart;
    }

-- ---- words of places
pub housed_place : (n made : ℕ) (p : Place) → Known made p → ((q : Reg) → p ≡ Register q → OfPool n q) → Housed n made (word_of (Some p))
housed_place n made (Slot k) h f = let e : 257 + k ≡ 1 + (256 + k) = omega arith in subst (Housed n made) e (in-slot k h)
housed_place n made (Register (Gpr r)) h f = in-register r (f (Gpr r) refl)
housed_place n made (Register (Fpr r)) h f = absurd (f (Fpr r) refl)

pub housed_more : (n a b x : ℕ) → a ≤ b → Housed n a x → Housed n b x
housed_more n a b x l (in-register r h) = in-register r h
housed_more n a b x l (in-slot k h) = in-slot k (omega arith)

-- ---- one definition more
module _ (n : ℕ) (ws : List ℕ) (done : List Ref) (w w' : Walk) (r v : ℕ) (s : Safe n ws r done w) (new : Not v done) (c : Change r v (end_of ws v) w w') where
  abbrev more : List Ref
  more = done ++ ref r v ∷ []

  -- an old value is another
  differs : (q u : ℕ) → Did q u done → u ≡ v → ⊥
  differs q u d e = new q (subst (λ (x : ℕ). Did q x done) e d)

  -- what was defined: the new value or an old one
  cases : {C : Type 0} (q u : ℕ) → Did q u more → (q ≡ r → u ≡ v → C) → (Did q u done → C) → C
  cases q u d h k = ⊎_elim k (λ m. h (one_row q u r v m) (one_value q u r v m)) (Memᴰ.append_cases done d)

  old : (q u : ℕ) → Did q u done → word w' u ≡ word w u
  old q u d = c.other u (differs q u d)

  was : (q u : ℕ) → Did q u done → Has w' u → Has w u
  was q u d h z = h (old q u d ∙ z)

  home_sits : (h : Has w' v) → sits (word w' v) ≡ (c.mine h).place
  home_sits h = let m : Home r v (end_of ws v) w w' = c.mine h in ap sits m.is ∙ word-sits m.place m.fits

  pooled_still : (q : Reg) → 0 < times (Register q) w'.alloc → OfPool n q
  pooled_still q h = s.pooled q (omega (arith, c.regs q))

  new_housed : r < end_of ws v → Has w' v → Housed n w'.alloc.made (word w' v)
  new_housed l h =
      let m : Home r v (end_of ws v) w w' = c.mine h in
      let t : 0 < times m.place w'.alloc = omega (arith, m.held r (omega arith) l, occurs-kept m.place r (live w'.alloc)) in
      subst (Housed n w'.alloc.made) (sym m.is)
      (housed_place n w'.alloc.made m.place (c.good.known m.place t)
      (λ q e. pooled_still q (subst (λ (p : Place). 0 < times p w'.alloc) e t)))

  housed_all : (q u : ℕ) → Did q u more → q < end_of ws u → Has w' u → Housed n w'.alloc.made (word w' u)
  housed_all q u d l h =
      cases q u d
      (λ e f. subst (λ (x : ℕ). q < end_of ws x → Has w' x → Housed n w'.alloc.made (word w' x)) (sym f) (λ l' h'. new_housed (rw e at l') h') l h)
      (λ k. rw (old q u k) (housed_more n w.alloc.made w'.alloc.made (word w u) c.made (s.housed q u k l (was q u k h))))

  new-held : Has w' v → (t : ℕ) → r ≤ t → t < end_of ws v → 0 < occurs (sits (word w' v)) (kept_of t (live w'.alloc))
  new-held h t l q = rw (home_sits h) ((c.mine h).held t l q)

  held_all : (q u : ℕ) → Did q u more → Has w' u → (t : ℕ) → r ≤ t → t < end_of ws u → 0 < occurs (sits (word w' u)) (kept_of t (live w'.alloc))
  held_all q u d h t l k =
      cases q u d
      (λ e f. subst (λ (x : ℕ). Has w' x → t < end_of ws x → 0 < occurs (sits (word w' x)) (kept_of t (live w'.alloc))) (sym f) (λ h' k'. new-held h' t l k') h k)
      (λ m. rw (old q u m) (omega (arith, c.lasts t l (sits (word w u)), s.held q u m (was q u m h) t l k)))

  owner_all : (t : ℕ) → r ≤ t → (p : Place) → 0 < occurs p (kept_of t (live w'.alloc)) → Owner ws more w' t p
  owner_all t l p h =
      ⊎_elim
      (λ k.
      let o : Owner ws done w t p = s.owner t l p k in
      record {
        row = o.row;
        value = o.value;
        did = Memᴰ.append_left (ref r v ∷ []) o.did;
        until = o.until;
        there = λ g. old o.row o.value o.did ∙ o.there (was o.row o.value o.did g);
      })
      (λ k. record { row = r; value = v; did = Memᴰ.append_right done (Memᴰ.head refl); until = k.0; there = k.1 })
      (c.whose t l p h)

  -- the new value and an old one that lasts past its row
  clash : (q u : ℕ) → Did q u done → r < end_of ws u → Has w' u → word w' u ≡ word w' v → ⊥
  clash q u d l h e =
      let g : Has w' v = λ z. h (e ∙ z) in
      let m : Home r v (end_of ws v) w w' = c.mine g in
      let i : sits (word w u) ≡ m.place = ap sits (sym (old q u d) ∙ e) ∙ home_sits g in
      let k : 0 < occurs m.place (kept_of r (live w.alloc)) = rw i at (s.held q u d (was q u d h) r (omega arith) l) in
      omega (arith, m.alone)

  apart_all : (r₁ v₁ r₂ v₂ : ℕ) → Did r₁ v₁ more → Did r₂ v₂ more → (v₁ ≡ v₂ → ⊥) → r₁ < end_of ws v₂ → r₂ < end_of ws v₁ → Has w' v₁
      → word w' v₁ ≡ word w' v₂ → ⊥
  apart_all r₁ v₁ r₂ v₂ d₁ d₂ ne l₁ l₂ h e =
      cases r₁ v₁ d₁
      (λ i f.
      cases r₂ v₂ d₂ (λ j g. ne (f ∙ sym g))
      (λ k. clash r₂ v₂ k (rw i at l₁) (λ z. h (e ∙ z)) (sym e ∙ ap (word w') f)))
      (λ k₁.
      cases r₂ v₂ d₂ (λ j g. clash r₁ v₁ k₁ (rw j at l₂) h (e ∙ ap (word w') g))
      (λ k₂. s.apart r₁ v₁ r₂ v₂ k₁ k₂ ne l₁ l₂ (was r₁ v₁ k₁ h) (sym (old r₁ v₁ k₁) ∙ e ∙ old r₂ v₂ k₂)))

  pub one_more : Safe n ws r (done ++ ref r v ∷ []) w'
  one_more =
      record {
        good = c.good;
        pooled = pooled_still;
        blank = λ u h.
            c.other u (λ e. h r (Memᴰ.append_right done (Memᴰ.head (ap (ref r) e))))
            ∙ s.blank u (λ q d. h q (Memᴰ.append_left (ref r v ∷ []) d));
        housed = housed_all;
        held = held_all;
        owner = owner_all;
        apart = apart_all;
      }

  pub old_stays : (q u : ℕ) → Did q u done → word w' u ≡ word w u
  old_stays = old
