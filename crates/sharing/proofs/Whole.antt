-- A whole function: every value in use has a place, and no two in use at one row share one.
use Prim.Native.Nat.{ℕ, ◌+◌, ◌-◌, ◌≤◌}
use mathlib.Core.Bool.{true}
use mathlib.Core.List.Memᴰ
use mathlib.Core.List.{List, [], ◌∷◌}
use mathlib.Core.Logic.{⊎_elim}
use mathlib.Core.Path.{◌≡◌, sym, ap, ◌∙◌}
use native.Mathlib.Omega.{arith}
use lib.Dec.{eqb}
use lib.ListN.{length, get_or}
use borrow.Author.Tests.{eqb-false, lt-ltb}
use Rattle.base.proofs.Numbers.{same?}
use Rattle.rows.specs.Rows.{Ref, rows_of, defs_of, row_in, InUse}
use Rattle.fit.specs.Intervals.{once_ok}
use Rattle.assign.specs.Walk.{assigned, begin, place_word, slots_made, all_placed, slots_ok}
use Rattle.sharing.specs.Sharing.{Held, in_register, in_slot}
use Rattle.sharing.proofs.Defined.{not-head, not-tail, Did, did_at}
use Rattle.sharing.proofs.Safe.{Housed, in-register, in-slot, Safe}
use Rattle.sharing.proofs.Runs.{begin_safe, rows_go}

pub has-each : (map : List ℕ) (ds : List Ref) (r v : ℕ) → all_placed map ds ≡ true → Did r v ds → get_or map v 0 ≡ 0 → ⊥
unfolding all_placed
has-each map [] r v e d z = Memᴰ.not-nil d
has-each map (x ∷ ds) r v e d z =
    ⊎_elim
    (λ q.
    let z' : get_or map x.value 0 ≡ 0 = ap (λ (u : ℕ). get_or map u 0) (sym (ap (λ (y : Ref). y.value) q)) ∙ z in
    eqb-false (get_or map x.value 0) 0 (not-head (eqb (get_or map x.value 0) 0) (all_placed map ds) e) z')
    (λ k. has-each map ds r v (not-tail (eqb (get_or map x.value 0) 0) (all_placed map ds) e) k z) (Memᴰ.cases_cons d)

pub held : (n : ℕ) (ws : List ℕ) (x : ℕ) → slots_made n ws ≤ 128 → Housed n (slots_made n ws) x → Held n ws x
held n ws x l (in-register r h) = in_register r (lt-ltb r (n - 2) h)
held n ws x l (in-slot k h) = in_slot k h l

module _ (n : ℕ) (ws : List ℕ) (once : once_ok ws ≡ true) where
  pub whole_safe : Safe n ws (0 + length (rows_of ws)) (defs_of ws) (assigned n ws)
  unfolding assigned
  whole_safe = (rows_go n ws 0 (rows_of ws) [] (begin n ws) (begin_safe n ws) once).safe

  module _ (all : slots_ok n ws ≡ true) where
    pub has-place : (r v : ℕ) → Did r v (defs_of ws) → place_word n ws v ≡ 0 → ⊥
    has-place r v d = has-each (assigned n ws).map (defs_of ws) r v all d

    pub all_placed_lem : (v r : ℕ) → InUse ws v r → Held n ws (place_word n ws v)
    all_placed_lem v r u =
        let s = whole_safe in
        let d : Did (row_in v (defs_of ws)) v (defs_of ws) = did_at v (defs_of ws) u.is in
        held n ws (place_word n ws v) s.good.capped
        (s.housed (row_in v (defs_of ws)) v d (omega (arith, u.from, u.until)) (has-place (row_in v (defs_of ws)) v d))

    pub all_apart : (v v' r : ℕ) → InUse ws v r → InUse ws v' r → place_word n ws v ≡ place_word n ws v' → v ≡ v'
    all_apart v v' r u u' e =
        let d : Did (row_in v (defs_of ws)) v (defs_of ws) = did_at v (defs_of ws) u.is in
        let d' : Did (row_in v' (defs_of ws)) v' (defs_of ws) = did_at v' (defs_of ws) u'.is in
        ⊎_elim (λ q. q)
        (λ ne.
        absurd
        (whole_safe.apart (row_in v (defs_of ws)) v (row_in v' (defs_of ws)) v' d d' ne (omega (arith, u.from, u'.until))
        (omega (arith, u'.from, u.until)) (has-place (row_in v (defs_of ws)) v d) e))
        (same? v v')
