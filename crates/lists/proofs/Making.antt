-- Two lists that grew in their buffers, and all six.
use Rattle.std.specs.Prelude.{Ok, Err}
use mathlib.Core.Path.{◌≡◌, refl, sym, ap, ◌∙◌}
use mathlib.Core.Logic.{⊎_elim}
use mathlib.Core.Bool.{Bool, true, false, not, ◌&&◌}
use Prim.Native.Nat.{ℕ, ◌/◌, ◌≤◌, ◌<◌}
use mathlib.Core.List.{List}
use native.Mathlib.Omega.{arith}
use borrow.Author.Tests.{leb-true, lt-ltb, le-ltb, le-leb, lt-leb}
use lib.Dec.{leb, ltb}
use lib.ListN.{length, take}
use lib.Seq.{sets, take_all}
use Rattle.base.proofs.Numbers.{lt?}
use Rattle.base.proofs.Buffers.{zero_from-same}
use Rattle.refusal.specs.declared.Refusal.TheVariants.{NoRoom}
use Rattle.input.specs.Layout.{values}
use Rattle.input.specs.Forms.{both}
use Rattle.input.proofs.Chain.{both-parts}
use Rattle.shape.proofs.Tests.{both_rest}
use Rattle.grow.specs.declared.End.{End}
use Rattle.grow.specs.Growing.{Grown, Grows}
use Rattle.grow.proofs.Growing.{grown_start, grown_lengths, grown_keeps}
use Rattle.lists.specs.declared.Used.{Used}
use Rattle.lists.specs.declared.Pair.{Pair}
use Rattle.lists.specs.Lists.{Lists, lists, room, lists_after, lists_fit, Made, Kept, Listed}
use Rattle.lists.specs.Parts.{Part, Parts, InternedParts, SwitchParts, LookupParts}
use Rattle.lists.proofs.Kept.{Starts}

-- ---- one list

-- the list in its buffer, and whether its end is full
pub record Ended (used room : ℕ) (b l b' : List ℕ) (e : End) : Type 0 where
  pub part : Part used room b l b' e.at
  pub full_is : not e.full ≡ leb (length l) room

not-over : (room n : ℕ) → not (ltb room n) ≡ leb n room
not-over room n =
    ⊎_elim
    (λ (h : room < n). ap not (lt-ltb room n h) ∙ sym (lt-leb n room h))
    (λ (h : n ≤ room). ap not (le-ltb room n h) ∙ sym (le-leb n room h))
    (lt? room n)

ended_grown : {b l b' : List ℕ} {e : End} (used room : ℕ) → Grown b l b' e → e.room ≡ room → used ≤ room → Starts (take used b) used l
    → Ended used room b l b' e
ended_grown {b} {l} {b'} {e} used room g q h s =
    let r : used ≤ e.room = omega (arith, q) in
    record {
      part =
          record {
            kept = zero_from-same b' b used (grown_keeps used g r s.is) (grown_lengths g);
            at_is = λ k. omega (arith, g.at_is, q, k);
            is = λ k. g.is ∙ rw q (ap (sets b 0) (take_all room l k));
          };
      full_is = ap not g.full_is ∙ rw q (not-over room (length l));
    }

-- what grew from the used words on
pub ended : {f : List ℕ → List ℕ} {b b' : List ℕ} {e e' : End} (used room : ℕ) → Grows f b e b' e' → e ≡ record { at = used; room = room; full = false }
    → used ≤ room → room ≤ length b → (used ≤ length b → Starts (take used b) used (f (take used b))) → Ended used room b (f (take used b)) b' e'
ended {f} {b} {b'} {e} {e'} used room g is h k s =
    ended_grown used room (g.go b (take used b) (rw is (grown_start b used room h k))) (g.room_kept ∙ ap (λ (x : End). x.room) is) h (s (omega arith))

-- ---- two

pub parts : {used room : ℕ} {b l b' : List ℕ} {e : End} {used₂ room₂ : ℕ} {b₂ l₂ b₂' : List ℕ} {e₂ : End} (t : Bool)
    → Ended used room b l b' e → Ended used₂ room₂ b₂ l₂ b₂' e₂ → t ≡ both (not e.full) (not e₂.full)
    → Parts used room b l b' used₂ room₂ b₂ l₂ b₂' (record { first = e.at; second = e₂.at; fits = t })
parts t x y s =
    record {
      first = x.part;
      second = y.part;
      fits_is = s ∙ rw (x.full_is, y.full_is);
    }

-- ---- all six

-- what stands where all six fit
pub record Fits (b l : Lists) : Type 0 where
  pub globals : length l.globals ≤ room 2 b.globals
  pub builtins : length l.builtins ≤ room 1 b.builtins
  pub switches : length l.switches ≤ room 3 b.switches
  pub targets : length l.targets ≤ length b.targets
  pub lookups : length l.lookups ≤ room 5 b.lookups
  pub values : length l.values ≤ length b.values

pub fits_parts : (b l : Lists) → lists_fit b l ≡ true → Fits b l
unfolding lists_fit
fits_parts b l h =
    let x₁ = both-parts _ _ h in
    let x₂ = both-parts _ _ x₁.1 in
    let x₃ = both-parts _ _ x₂.1 in
    let x₄ = both-parts _ _ x₃.1 in
    let x₅ = both-parts _ _ x₄.1 in
    record {
      globals = leb-true _ _ x₁.0;
      builtins = leb-true _ _ x₂.0;
      switches = leb-true _ _ x₃.0;
      targets = leb-true _ _ x₄.0;
      lookups = leb-true _ _ x₅.0;
      values = leb-true _ _ x₅.1;
    }

-- the used lengths, by the ends of the six
abbrev used_by : ℕ → Pair → Pair → Pair → Used
used_by ops x y z =
    record {
      ops = ops;
      globals = x.first / 2;
      builtins = x.second;
      switches = y.first / 3;
      targets = y.second;
      lookups = z.first / 5;
      values = z.second / 2;
    }

both_three : (p q r : Bool) → ((p && q) && r) ≡ both p (both q r)
both_three true true r = refl
both_three true false r = refl
both_three false q r = refl

module _ (ws places : List ℕ) (u : Used) {g h s t l v g' h' s' t' l' v' : List ℕ} {x y z : Pair}
    (p : InternedParts ws u g h g' h' x) (q : SwitchParts ws places u s t s' t' y) (r : LookupParts ws u l v l' v' z) where
  six_made : Fits (lists g h s t l v) (lists_after ws (take (values ws) places) (lists g h s t l v) u)
      → Made u (lists g h s t l v) (lists_after ws (take (values ws) places) (lists g h s t l v) u) (used_by u.ops x y z) (lists g' h' s' t' l' v')
  six_made f =
      record {
        used_is =
            rw (p.first.at_is f.globals, p.second.at_is f.builtins, q.first.at_is f.switches, q.second.at_is f.targets, r.first.at_is f.lookups, r.second.at_is f.values);
        globals_is = p.first.is f.globals;
        builtins_is = p.second.is f.builtins;
        switches_is = q.first.is f.switches;
        targets_is = q.second.is f.targets;
        lookups_is = r.first.is f.lookups;
        values_is = r.second.is f.values;
      }

  six_fit : both x.fits (both y.fits z.fits) ≡ lists_fit (lists g h s t l v) (lists_after ws (take (values ws) places) (lists g h s t l v) u)
  unfolding lists_fit
  six_fit = rw (p.fits_is, q.fits_is, r.fits_is) (simp both_rest)

  -- the three of two lists each keep what was there
  six_kept : Kept u (lists g h s t l v) (lists g' h' s' t' l' v')
  six_kept =
      record {
        globals_kept = p.first.kept;
        builtins_kept = p.second.kept;
        switches_kept = q.first.kept;
        targets_kept = q.second.kept;
        lookups_kept = r.first.kept;
        values_kept = r.second.kept;
      }

  fit_is : (k : Bool) → ((x.fits && y.fits) && z.fits) ≡ k → lists_fit (lists g h s t l v) (lists_after ws (take (values ws) places) (lists g h s t l v) u) ≡ k
  fit_is k e = sym six_fit ∙ sym (both_three x.fits y.fits z.fits) ∙ e

  pub listed : ((x.fits && y.fits) && z.fits) ≡ true
      → Listed ws places u (lists g h s t l v) (lists g' h' s' t' l' v') (Ok (used_by u.ops x y z))
  listed e =
      record { number_is = rw (fit_is true e); made = six_made (fits_parts (lists g h s t l v) _ (fit_is true e)); kept = six_kept }

  pub listed-not : ((x.fits && y.fits) && z.fits) ≡ false
      → Listed ws places u (lists g h s t l v) (lists g' h' s' t' l' v') (Err NoRoom)
  listed-not e = record { number_is = rw (fit_is false e); made = tt; kept = six_kept }
