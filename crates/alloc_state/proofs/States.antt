-- `state_ok`, test by test.
use mathlib.Core.Path.{◌≡◌, ◌∙◌}
use mathlib.Core.Bool.{Bool, true, false}
use mathlib.Core.List.{List}
use Prim.Native.Nat.{ℕ, ◌≤◌}
use lib.Dec.{leb}
use borrow.Author.Tests.{leb-true, le-leb}
use Rattle.base.specs.Choice.{pick}
use Rattle.base.specs.Lists.{distinct}
use Rattle.alloc.specs.declared.Alloc.{Alloc}
use Rattle.alloc.specs.State.{most_active, most_slots}
use Rattle.alloc_state.specs.Judged.{all_below, places_of, all_ours, counts_ok, state_ok}
use Rattle.alloc_state.proofs.Distinct.{and_left, and_right}

pub record Counts (s : Alloc) : Type 0 where
  pub actives : s.count ≤ most_active
  pub spares : s.spares ≤ most_slots
  pub made : s.made ≤ most_slots

module _ (s : Alloc) where
  abbrev rest : Bool
  rest = pick (leb s.spares most_slots) (leb s.made most_slots) false

  pub counts_are : counts_ok s ≡ true → Counts s
  counts_are e =
      let r : rest ≡ true = and_right (leb s.count most_active) rest e in
      record {
        actives = leb-true s.count most_active (and_left (leb s.count most_active) rest e);
        spares = leb-true s.spares most_slots (and_left (leb s.spares most_slots) (leb s.made most_slots) r);
        made = leb-true s.made most_slots (and_right (leb s.spares most_slots) (leb s.made most_slots) r);
      }

  pub are_counts : Counts s → counts_ok s ≡ true
  are_counts c =
      rw (le-leb s.count most_active c.actives, le-leb s.spares most_slots c.spares, le-leb s.made most_slots c.made)

module _ (gprs fprs : List ℕ) (s : Alloc) where
  pub state_rest : all_below gprs ≡ true → all_below fprs ≡ true → counts_ok s ≡ true
      → state_ok gprs fprs s ≡ pick (all_ours gprs fprs s.made (places_of s)) (distinct (places_of s)) false
  unfolding state_ok
  state_rest e f c = rw (e, f, c)

  -- a state that is accepted
  pub record Accepted : Type 0 where
    pub low_gprs : all_below gprs ≡ true
    pub low_fprs : all_below fprs ≡ true
    pub counts : Counts s
    pub are_all_ours : all_ours gprs fprs s.made (places_of s) ≡ true
    pub all_once : distinct (places_of s) ≡ true

  pub accepted : state_ok gprs fprs s ≡ true → Accepted
  unfolding state_ok
  accepted e =
      let o : Bool = all_ours gprs fprs s.made (places_of s) in
      let d : Bool = distinct (places_of s) in
      let x : Bool = pick (counts_ok s) (pick o d false) false in
      let f : pick (all_below fprs) x false ≡ true = and_right (all_below gprs) (pick (all_below fprs) x false) e in
      let c : x ≡ true = and_right (all_below fprs) x f in
      let p : pick o d false ≡ true = and_right (counts_ok s) (pick o d false) c in
      record {
        low_gprs = and_left (all_below gprs) (pick (all_below fprs) x false) e;
        low_fprs = and_left (all_below fprs) x f;
        counts = counts_are s (and_left (counts_ok s) (pick o d false) c);
        are_all_ours = and_left o d p;
        all_once = and_right o d p;
      }

  pub accepts : Accepted → state_ok gprs fprs s ≡ true
  accepts a = state_rest a.low_gprs a.low_fprs (are_counts s a.counts) ∙ rw (a.are_all_ours, a.all_once)
