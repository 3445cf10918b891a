-- The walk stays safe from row to row, and a value that has its place keeps it.
use Prim.Native.Nat.{ℕ, zero, suc, ◌+◌, ◌-◌, ◌<◌}
use mathlib.Core.Bool.{true}
use mathlib.Core.List.Memᴰ
use mathlib.Core.List.{List, [], ◌∷◌, ◌++◌, append_assoc, append-nil}
use mathlib.Core.Logic.{◌⊎◌, inl, inr, ⊎_elim}
use mathlib.Core.Path.{◌≡◌, refl, sym, ap, ◌∙◌}
use native.Mathlib.Omega.{arith}
use lib.Dec.{ltb, eqb}
use lib.ListN.{length, get_or, replicate}
use Rattle.base.specs.Choice.{pick}
use Rattle.base.specs.Masks.{has_bit, with_bit}
use Rattle.base.proofs.Masks.{has_none, has-with_other}
use Rattle.base.proofs.Numbers.{pick-both, same?}
use Rattle.place.specs.declared.Reg.{Reg}
use Rattle.place.specs.declared.Reg.TheVariants.{Gpr, Fpr}
use Rattle.place.specs.declared.Place.{Place}
use Rattle.place.specs.declared.Place.TheVariants.{Register}
use Rattle.alloc.specs.declared.Entry.{Entry}
use Rattle.alloc.specs.State.{live, mask_of, fresh_of}
use Rattle.alloc.specs.Allocation.{kept_of, is_free}
use Rattle.alloc.specs.Good.{occurs, free_of, times}
use Rattle.alloc.proofs.Keeps.{good_fresh, bit-true}
use Rattle.input.specs.Layout.{values}
use Rattle.input.specs.Records.{end_of, params_of, first_edge, edge_count, edge_target, arguments_of}
use Rattle.rows.specs.Rows.{Row, params, instr, term, over_rows, Ref, ref, refs, defined_by, row_defs}
use Rattle.fit.specs.Intervals.{once}
use Rattle.assign.specs.Steps.{Step, pins, places, notes, hints, edge_hints, edges_hints, is_call, row_steps}
use Rattle.assign.specs.Walk.{Walk, walk, step, run, pin_step, place_step, note_step, hint_step, pool_of, begin}
use Rattle.sharing.proofs.Defined.{never, Did, Not, once-left, once_cross}
use Rattle.sharing.proofs.Placing.{word, Change, place-placed, pin-placed, changed}
use Rattle.sharing.proofs.Safe.{OfPool, Owner, Safe, later, one_more, old_stays}

pub run-append : (ws pool : List ℕ) (xs ys : List Step) (w : Walk) → run ws pool (xs ++ ys) w ≡ run ws pool ys (run ws pool xs w)
unfolding run
run-append ws pool [] ys w = refl
run-append ws pool (x ∷ xs) ys w = run-append ws pool xs ys (step ws pool x w)

-- ---- before the first row
in-mask : (m k : ℕ) (b : ℕ) → has_bit (with_bit m b) k ≡ true → (k ≡ b) ⊎ (has_bit m k ≡ true)
in-mask m k b h = ⊎_elim (λ e. inl e) (λ ne. inr (sym (has-with_other m b k ne) ∙ h)) (same? k b)

stands_in_pool : (n m k : ℕ) → has_bit (mask_of m (pool_of n)) k ≡ true → (k < n) ⊎ (has_bit m k ≡ true)
unfolding pool_of mask_of
stands_in_pool zero m k h = inr h
stands_in_pool (suc n) m k h =
    ⊎_elim (λ (l : k < n). inl (omega arith))
    (λ (q : has_bit (with_bit m n) k ≡ true). ⊎_elim (λ (e : k ≡ n). inl (omega arith)) (λ (i : has_bit m k ≡ true). inr i) (in-mask m k n q))
    (stands_in_pool n (with_bit m n) k h)

fresh_free : (n : ℕ) (q : Reg) → is_free q (fresh_of (pool_of (n - 2)) []) ≡ true → OfPool n q
unfolding is_free fresh_of mask_of
fresh_free n (Gpr r) h = ⊎_elim (λ l. l) (λ e. absurd (never (sym e ∙ has_none r))) (stands_in_pool (n - 2) 0 r h)
fresh_free n (Fpr r) h = never (sym h ∙ has_none r)

fresh-live : (n : ℕ) → live (fresh_of (pool_of (n - 2)) []) ≡ []
unfolding fresh_of
fresh-live n = refl

nothing : (p : Place) → occurs p [] ≡ 0
unfolding occurs
nothing p = refl

kept-nothing : (t : ℕ) → kept_of t [] ≡ []
unfolding kept_of
kept-nothing t = refl

fresh-pooled : (n : ℕ) (q : Reg) → 0 < times (Register q) (fresh_of (pool_of (n - 2)) []) → OfPool n q
unfolding free_of
fresh-pooled n q h =
    fresh_free n q (bit-true _ (omega (arith, h, ap (occurs (Register q)) (fresh-live n), nothing (Register q))))

all_zero : (n v : ℕ) → ◌≡◌ {A = ℕ} (get_or (replicate n 0) v 0) 0
all_zero zero v = refl
all_zero (suc n) zero = refl
all_zero (suc n) (suc v) = all_zero n v

none_kept : (n t : ℕ) (p : Place) → 0 < occurs p (kept_of t (live (fresh_of (pool_of (n - 2)) []))) → ⊥
none_kept n t p h =
    let e : occurs p (kept_of t (live (fresh_of (pool_of (n - 2)) []))) ≡ 0 =
    ap (λ (l : List Entry). occurs p (kept_of t l)) (fresh-live n) ∙ ap (occurs p) (kept-nothing t) ∙ nothing p in
    omega arith

pub begin_safe : (n : ℕ) (ws : List ℕ) → Safe n ws 0 [] (begin n ws)
unfolding begin
begin_safe n ws =
    record {
      good = good_fresh (pool_of (n - 2)) [];
      pooled = fresh-pooled n;
      blank = λ v h. all_zero (values ws) v;
      housed = λ r v d. absurd (Memᴰ.not-nil d);
      held = λ r v d. absurd (Memᴰ.not-nil d);
      owner = λ t l p h. absurd (none_kept n t p h);
      apart = λ r v r' v' d. absurd (Memᴰ.not-nil d);
    }

-- ---- what steps do that define `more`: the walk is safe still, and each value keeps its place
pub record Goes (n : ℕ) (ws : List ℕ) (r : ℕ) (done more : List Ref) (w w' : Walk) : Type 0 where
  pub safe : Safe n ws r (done ++ more) w'
  pub stays : (q u : ℕ) → Did q u done → word w' u ≡ word w u

pub record Quiet (w w' : Walk) : Type 0 where
  pub alloc : w'.alloc ≡ w.alloc
  pub map : w'.map ≡ w.map

module _ (n : ℕ) (ws : List ℕ) where
  abbrev pool : List ℕ
  pool = pool_of (n - 2)

  goes_nowhere : (r : ℕ) (done : List Ref) (w w' : Walk) → Safe n ws r done w' → w'.map ≡ w.map → Goes n ws r done [] w w'
  goes_nowhere r done w w' s e =
      record {
        safe = rw append-nil s;
        stays = λ q u d. ap (λ (m : List ℕ). get_or m u 0) e;
      }

  goes_then : (r r' : ℕ) (done xs ys : List Ref) (w w' w'' : Walk) → Goes n ws r done xs w w' → Goes n ws r' (done ++ xs) ys w' w'' → Goes n ws r' done (xs ++ ys) w w''
  goes_then r r' done xs ys w w' w'' g h =
      record {
        safe = rw (← append_assoc done xs ys) h.safe;
        stays = λ q u d. h.stays q u (Memᴰ.append_left xs d) ∙ g.stays q u d;
      }

  goes_one : (r v : ℕ) (done : List Ref) (w w' : Walk) → Safe n ws r done w → Not v done → Change r v (end_of ws v) w w' → Goes n ws r done (ref r v ∷ []) w w'
  goes_one r v done w w' s new c =
      record { safe = one_more n ws done w w' r v s new c; stays = old_stays n ws done w w' r v s new c }

  -- the next of those that are defined once is new
  fresh : (done : List Ref) (r v : ℕ) (ds : List Ref) → once (done ++ ref r v ∷ ds) ≡ true → Not v done
  fresh done r v ds o q d = once_cross done (ref r v ∷ ds) o q r v d (Memᴰ.head refl)

  pins_go : (r k : ℕ) (vs : List ℕ) (done : List Ref) (w : Walk) → Safe n ws r done w → once (done ++ refs r vs) ≡ true → Goes n ws r done (refs r vs) w (run ws pool (pins r k vs) w)
  unfolding pins refs run step
  pins_go r k [] done w s o = goes_nowhere r done w w s refl
  pins_go r k (v ∷ vs) done w s o =
      let new : Not v done = fresh done r v (refs r vs) o in
      let w' : Walk = pin_step ws pool r k v w in
      let g = goes_one r v done w w' s new (changed r v (end_of ws v) w w' (s.blank v new) (pin-placed ws pool r k v w s.good (s.blank v new))) in
      goes_then r r done (ref r v ∷ []) (refs r vs) w w' _ g
      (pins_go r (k + 1) vs (done ++ ref r v ∷ []) w' g.safe (rw append_assoc o))

  places_go : (r : ℕ) (vs : List ℕ) (done : List Ref) (w : Walk) → Safe n ws r done w → once (done ++ refs r vs) ≡ true → Goes n ws r done (refs r vs) w (run ws pool (places r vs) w)
  unfolding places refs run step
  places_go r [] done w s o = goes_nowhere r done w w s refl
  places_go r (v ∷ vs) done w s o =
      let new : Not v done = fresh done r v (refs r vs) o in
      let w' : Walk = place_step ws pool r v w in
      let g = goes_one r v done w w' s new (changed r v (end_of ws v) w w' (s.blank v new) (place-placed ws pool r v w s.good (s.blank v new))) in
      goes_then r r done (ref r v ∷ []) (refs r vs) w w' _ g
      (places_go r vs (done ++ ref r v ∷ []) w' g.safe (rw append_assoc o))

  -- ---- neither a note nor a hint touches the allocator or the map
  quiet_then : {w w' w'' : Walk} → Quiet w w' → Quiet w' w'' → Quiet w w''
  quiet_then g h = record { alloc = h.alloc ∙ g.alloc; map = h.map ∙ g.map }

  quiet_none : {w : Walk} → Quiet w w
  quiet_none = record { alloc = refl; map = refl }

  pub unmoved : (r : ℕ) (done : List Ref) (w w' : Walk) → Safe n ws r done w → Quiet w w' → Safe n ws r done w'
  unmoved r done w w' s e =
      let safe : Safe n ws r done (walk w.alloc w.map w'.wish w'.noted) =
      record {
        good = s.good;
        pooled = s.pooled;
        blank = s.blank;
        housed = s.housed;
        held = s.held;
        owner = λ t l p h.
            let o : Owner ws done w t p = s.owner t l p h in
            record { row = o.row; value = o.value; did = o.did; until = o.until; there = o.there };
        apart = s.apart;
      } in
      rw (← e.alloc, ← e.map) at safe

  quiet_goes : (r : ℕ) (done : List Ref) (w w' : Walk) → Safe n ws r done w → Quiet w w' → Goes n ws r done [] w w'
  quiet_goes r done w w' s e = goes_nowhere r done w w' (unmoved r done w w' s e) e.map

  pub note_quiet : (r v : ℕ) (w : Walk) → Quiet w (note_step r v w)
  unfolding note_step
  note_quiet r v w = record { alloc = refl; map = refl }

  hint_quiet : (a p : ℕ) (w : Walk) → Quiet w (hint_step a p w)
  unfolding hint_step
  hint_quiet a p w = record { alloc = refl; map = refl }

  notes_quiet : (r : ℕ) (vs : List ℕ) (w : Walk) → Quiet w (run ws pool (notes r vs) w)
  unfolding run notes step
  notes_quiet r [] w = quiet_none
  notes_quiet r (v ∷ vs) w = quiet_then (note_quiet r v w) (notes_quiet r vs (note_step r v w))

  hints_quiet : (xs ps : List ℕ) (w : Walk) → Quiet w (run ws pool (hints xs ps) w)
  unfolding run hints step
  hints_quiet [] ps w = quiet_none
  hints_quiet (a ∷ xs) [] w = quiet_none
  hints_quiet (a ∷ xs) (p ∷ ps) w = quiet_then (hint_quiet a p w) (hints_quiet xs ps (hint_step a p w))

  none_quiet : (w : Walk) → Quiet w (run ws pool [] w)
  unfolding run
  none_quiet w = quiet_none

  edges_quiet : (b e m : ℕ) (w : Walk) → Quiet w (run ws pool (edges_hints ws b e m) w)
  unfolding edges_hints edge_hints
  edges_quiet b e zero w = none_quiet w
  edges_quiet b e (suc m) w =
      rw run-append
      (quiet_then
      (pick-both (λ (l : List Step). Quiet w (run ws pool l w)) (ltb b (edge_target ws e)) _ _ (hints_quiet (arguments_of ws e) (params_of ws (edge_target ws e)) w) (none_quiet w))
      (edges_quiet b (e + 1) m _))

  -- ---- a row, and rows
  row_goes : (r : ℕ) (x : Row) (done : List Ref) (w : Walk) → Safe n ws r done w → once (done ++ row_defs ws r x) ≡ true
      → Goes n ws r done (row_defs ws r x) w (run ws pool (row_steps ws r x) w)
  unfolding row_steps row_defs
  row_goes r (params b) done w s o =
      pick-both (λ (l : List Step). Goes n ws r done (refs r (params_of ws b)) w (run ws pool l w)) (eqb b 0) _ _
      (pins_go r 0 (params_of ws b) done w s o) (places_go r (params_of ws b) done w s o)
  row_goes r (instr i) done w s o =
      let w' : Walk = run ws pool (pick (is_call ws i) (notes r (defined_by ws i)) []) w in
      let e : Quiet w w' =
      pick-both (λ (l : List Step). Quiet w (run ws pool l w)) (is_call ws i) _ _ (notes_quiet r (defined_by ws i) w) (none_quiet w) in
      let g : Goes n ws r done (refs r (defined_by ws i)) w' (run ws pool (places r (defined_by ws i)) w') =
      places_go r (defined_by ws i) done w' (unmoved r done w w' s e) o in
      rw run-append (record { safe = g.safe; stays = λ q u d. g.stays q u d ∙ ap (λ (m : List ℕ). get_or m u 0) e.map })
  row_goes r (term b) done w s o = quiet_goes r done w _ s (edges_quiet b (first_edge ws b) (edge_count ws b) w)

  nothing_goes : (r : ℕ) (done : List Ref) (w : Walk) → Safe n ws r done w → Goes n ws r done [] w (run ws pool [] w)
  nothing_goes r done w s = quiet_goes r done w _ s (none_quiet w)

  -- a row, then rows, over what each gives
  goes_on_lem : (r len : ℕ) (xs ys : List Step) (done ds rest : List Ref) (w : Walk) → Goes n ws r done ds w (run ws pool xs w)
      → Goes n ws (r + 1 + len) (done ++ ds) rest (run ws pool xs w) (run ws pool ys (run ws pool xs w)) → Goes n ws (r + suc len) done (ds ++ rest) w (run ws pool (xs ++ ys) w)
  goes_on_lem r len xs ys done ds rest w g h =
      let e : r + 1 + len ≡ r + suc len = omega arith in
      rw (run-append ws pool xs ys w, ← e) (goes_then r (r + 1 + len) done ds rest w (run ws pool xs w) _ g h)

  once-first : (done ds rest : List Ref) → once (done ++ (ds ++ rest)) ≡ true → once (done ++ ds) ≡ true
  once-first done ds rest o = once-left (done ++ ds) rest (rw append_assoc o)

  once-rest : (done ds rest : List Ref) → once (done ++ (ds ++ rest)) ≡ true → once ((done ++ ds) ++ rest) ≡ true
  once-rest done ds rest o = rw append_assoc o

  next : (r : ℕ) (done ds : List Ref) (w w' : Walk) → Goes n ws r done ds w w' → Safe n ws (r + 1) (done ++ ds) w'
  next r done ds w w' g = later n ws r (r + 1) (done ++ ds) w' (omega arith) g.safe

  start : (r : ℕ) (done : List Ref) (w : Walk) → Safe n ws r done w → Goes n ws (r + 0) done [] w (run ws pool [] w)
  start r done w s = nothing_goes (r + 0) done w (later n ws r (r + 0) done w (omega arith) s)

  pub rows_go : (r : ℕ) (xs : List Row) (done : List Ref) (w : Walk) → Safe n ws r done w → once (done ++ over_rows (row_defs ws) r xs) ≡ true
      → Goes n ws (r + length xs) done (over_rows (row_defs ws) r xs) w (run ws pool (over_rows (row_steps ws) r xs) w)
  unfolding over_rows
  rows_go r [] done w s o = start r done w s
  rows_go r (x ∷ xs) done w s o =
      let g = row_goes r x done w s (once-first done (row_defs ws r x) (over_rows (row_defs ws) (r + 1) xs) o) in
      goes_on_lem r (length xs) (row_steps ws r x) (over_rows (row_steps ws) (r + 1) xs) done (row_defs ws r x) (over_rows (row_defs ws) (r + 1) xs) w g
      (rows_go (r + 1) xs (done ++ row_defs ws r x) (run ws pool (row_steps ws r x) w) (next r done (row_defs ws r x) w _ g)
      (once-rest done (row_defs ws r x) (over_rows (row_defs ws) (r + 1) xs) o))
