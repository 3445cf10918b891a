-- The slots of switch tables, still labels: the last case with a slot's key has it, and a slot without a case has the default's block.
use mathlib.Core.Path.{◌≡◌, refl, sym, ap, ◌∙◌}
use mathlib.Core.Logic.{◌≢◌, ⊎_elim}
use mathlib.Core.Bool.{Bool, true, false}
use Prim.Native.Nat.{ℕ, zero, suc, ◌+◌, ◌*◌, ◌≤◌, ◌<◌}
use mathlib.Core.List.{List, ◌++◌}
use native.Mathlib.Nat.{add-zero}
use native.Mathlib.Omega.{arith}
use lib.ListN.{length, get_or, set, replicate, length-append, length-set, length-replicate, get_or-replicate, get_or-append}
use lib.Seq.{get_or-set_same, get_or-set_other, get_or-append-add}
use Rattle.base.specs.Choice.{pick}
use Rattle.base.proofs.Numbers.{both}
use Rattle.input.specs.Records.{term_x, term_y, first_edge, edge_target}
use Rattle.fit.specs.Keys.{ranked, largest, smallest}
use Rattle.edges.specs.Edges.{has_moves, pad_count}
use Rattle.tables.specs.Tables.{slot_count, slot_for, case_keys, store_cases, switch_slots, has_switch, switch_targets}
use Rattle.tables.proofs.Ranges.{key_within}
use Rattle.layout.proofs.Pads.{count-zero, count_turn}

-- ---- the cases of one table
module _ (ws map keys : List ℕ) (start : ℕ) where
  store-turn : (label c e k : ℕ) (l : List ℕ) → store_cases ws map keys start label c e (suc k) l
      ≡ store_cases ws map keys start (label + pick (has_moves ws map e) 1 0) (c + 1) (e + 1) k
      (set l (start + slot_for ws keys c) (pick (has_moves ws map e) label (edge_target ws e)))
  unfolding store_cases
  store-turn label c e k l = go (has_moves ws map e)
    where
      go : (t : Bool) → pick t (store_cases ws map keys start (label + 1) (c + 1) (e + 1) k (set l (start + slot_for ws keys c) label))
          (store_cases ws map keys start label (c + 1) (e + 1) k (set l (start + slot_for ws keys c) (edge_target ws e)))
          ≡ store_cases ws map keys start (label + pick t 1 0) (c + 1) (e + 1) k (set l (start + slot_for ws keys c) (pick t label (edge_target ws e)))
      go true = refl
      go false = ap (λ (m : ℕ). store_cases ws map keys start m (c + 1) (e + 1) k (set l (start + slot_for ws keys c) (edge_target ws e))) (sym (add-zero label))

  store_long : (label c e k : ℕ) (l : List ℕ) → length (store_cases ws map keys start label c e k l) ≡ length l
  unfolding store_cases
  store_long label c e zero l = refl
  store_long label c e (suc k) l =
      ap length (store-turn label c e k l) ∙ store_long (label + pick (has_moves ws map e) 1 0) (c + 1) (e + 1) k _ ∙ length-set l (start + slot_for ws keys c) _

  -- what no case has
  store_other : (label c e k : ℕ) (l : List ℕ) (t : ℕ) → ((j : ℕ) → j < k → start + slot_for ws keys (c + j) ≢ t)
      → get_or (store_cases ws map keys start label c e k l) t 0 ≡ get_or l t 0
  unfolding store_cases
  store_other label c e zero l t f = refl
  store_other label c e (suc k) l t f =
      let z : c + 0 ≡ c = add-zero c in
      let f0 : start + slot_for ws keys c ≢ t = rw z at (f 0 (omega arith)) in
      ap (λ (x : List ℕ). get_or x t 0) (store-turn label c e k l)
      ∙ store_other (label + pick (has_moves ws map e) 1 0) (c + 1) (e + 1) k (set l (start + slot_for ws keys c) (pick (has_moves ws map e) label (edge_target ws e))) t
      (λ j h. let a : c + 1 + j ≡ c + (j + 1) = omega arith in rw a (f (j + 1) (omega arith)))
      ∙ get_or-set_other l (start + slot_for ws keys c) t _ 0 (λ (e : t ≡ start + slot_for ws keys c). f0 (sym e))

  -- the last case with its slot
  store_case : (label c e k : ℕ) (l : List ℕ) (i : ℕ) → i < k → start + slot_for ws keys (c + i) < length l
      → ((j : ℕ) → i < j → j < k → slot_for ws keys (c + j) ≢ slot_for ws keys (c + i))
      → get_or (store_cases ws map keys start label c e k l) (start + slot_for ws keys (c + i)) 0
      ≡ pick (has_moves ws map (e + i)) (label + pad_count ws map e i) (edge_target ws (e + i))
  unfolding store_cases
  store_case label c e zero l i h m f = absurd (omega arith)
  store_case label c e (suc k) l zero h m f =
      let z : c + 0 ≡ c = add-zero c in
      let z' : e + 0 ≡ e = add-zero e in
      let v : ℕ = pick (has_moves ws map e) label (edge_target ws e) in
      let p : label + pad_count ws map e 0 ≡ label = omega (arith, count-zero ws map e) in
      let m' : start + slot_for ws keys c < length l = rw z at m in
      rw (z, z', p)
      (ap (λ (x : List ℕ). get_or x (start + slot_for ws keys c) 0) (store-turn label c e k l)
      ∙ store_other (label + pick (has_moves ws map e) 1 0) (c + 1) (e + 1) k (set l (start + slot_for ws keys c) v) (start + slot_for ws keys c)
      (λ j g (q : start + slot_for ws keys (c + 1 + j) ≡ start + slot_for ws keys c).
      let a : c + (j + 1) ≡ c + 1 + j = omega arith in
      let d : slot_for ws keys (c + 1 + j) ≢ slot_for ws keys c = rw (a, z) at (f (j + 1) (omega arith) (omega arith)) in
      d (omega arith))
      ∙ get_or-set_same l (start + slot_for ws keys c) v 0 m')
  store_case label c e (suc k) l (suc i) h m f =
      let a : c + suc i ≡ c + 1 + i = omega arith in
      let b : e + suc i ≡ e + 1 + i = omega arith in
      let v : ℕ = pick (has_moves ws map e) label (edge_target ws e) in
      let x : ℕ = pick (has_moves ws map e) 1 0 in
      let d : label + pad_count ws map e (suc i) ≡ label + x + pad_count ws map (e + 1) i = (let t = count_turn ws map e i in omega (arith, t)) in
      let m' : start + slot_for ws keys (c + 1 + i) < length l = rw a at m in
      let n : length (set l (start + slot_for ws keys c) v) ≡ length l = length-set l (start + slot_for ws keys c) v in
      rw (a, b, d)
      (ap (λ (y : List ℕ). get_or y (start + slot_for ws keys (c + 1 + i)) 0) (store-turn label c e k l)
      ∙ store_case (label + x) (c + 1) (e + 1) k (set l (start + slot_for ws keys c) v) i (omega arith) (omega arith)
      (λ j g g'.
      let a' : c + (j + 1) ≡ c + 1 + j = omega arith in
      rw (a', a) at (f (j + 1) (omega arith) (omega arith))))

-- ---- one table behind those before it
module _ (ws map : List ℕ) (start label b : ℕ) (l : List ℕ) (long : length l ≡ start) where
  abbrev keys : List ℕ
  keys = case_keys ws b

  abbrev fresh : List ℕ
  fresh = l ++ replicate (slot_count ws keys) (edge_target ws (first_edge ws b + term_y ws b))

  fresh_long : length fresh ≡ start + slot_count ws keys
  fresh_long = simp (length-append, length-replicate) (omega arith)

  pub slots_long : length (switch_slots ws map start label b l) ≡ start + slot_count ws (case_keys ws b)
  unfolding switch_slots
  slots_long = store_long ws map keys start label (term_x ws b) (first_edge ws b) (term_y ws b) fresh ∙ fresh_long

  -- what stood before
  slots_before : (t : ℕ) → t < start → get_or (switch_slots ws map start label b l) t 0 ≡ get_or l t 0
  unfolding switch_slots
  slots_before t h =
      store_other ws map keys start label (term_x ws b) (first_edge ws b) (term_y ws b) fresh t (λ j g (e : start + slot_for ws keys (term_x ws b + j) ≡ t). omega arith)
      ∙ get_or-append l (replicate (slot_count ws keys) (edge_target ws (first_edge ws b + term_y ws b))) 0 t (omega arith)

  -- a case's slot is one of the table's
  pub slot_in : (i : ℕ) → i < term_y ws b → slot_for ws (case_keys ws b) (term_x ws b + i) < slot_count ws (case_keys ws b)
  unfolding slot_for slot_count
  slot_in i h =
      let e : term_x ws b + 1 * i ≡ term_x ws b + i = omega arith in
      let k = key_within ws 1 (term_x ws b) (term_y ws b) i h in
      let k0 : smallest ws keys ≤ ranked ws (term_x ws b + i) = rw e at k.0 in
      let k1 : ranked ws (term_x ws b + i) ≤ largest ws keys = rw e at k.1 in
      omega (arith, k0, k1)

  pub slots_case : (i : ℕ) → i < term_y ws b
      → ((j : ℕ) → i < j → j < term_y ws b → slot_for ws (case_keys ws b) (term_x ws b + j) ≢ slot_for ws (case_keys ws b) (term_x ws b + i))
      → get_or (switch_slots ws map start label b l) (start + slot_for ws (case_keys ws b) (term_x ws b + i)) 0
      ≡ pick (has_moves ws map (first_edge ws b + i)) (label + pad_count ws map (first_edge ws b) i) (edge_target ws (first_edge ws b + i))
  unfolding switch_slots
  slots_case i h f =
      store_case ws map keys start label (term_x ws b) (first_edge ws b) (term_y ws b) fresh i h (omega (arith, fresh_long, slot_in i h)) f

  pub slots_hole : (s : ℕ) → s < slot_count ws (case_keys ws b) → ((i : ℕ) → i < term_y ws b → slot_for ws (case_keys ws b) (term_x ws b + i) ≢ s)
      → get_or (switch_slots ws map start label b l) (start + s) 0 ≡ edge_target ws (first_edge ws b + term_y ws b)
  unfolding switch_slots
  slots_hole s h f =
      store_other ws map keys start label (term_x ws b) (first_edge ws b) (term_y ws b) fresh (start + s)
      (λ j g (e : start + slot_for ws keys (term_x ws b + j) ≡ start + s). f j g (omega arith))
      ∙ ap (λ (k : ℕ). get_or fresh (k + s) 0) (sym long)
      ∙ get_or-append-add l (replicate (slot_count ws keys) (edge_target ws (first_edge ws b + term_y ws b))) s 0
      ∙ get_or-replicate (slot_count ws keys) s (edge_target ws (first_edge ws b + term_y ws b)) 0 h

-- ---- the tables of k blocks from b on
module _ (ws map : List ℕ) where
  pub targets_some : (start label b k : ℕ) (l : List ℕ) → has_switch ws b ≡ true
      → switch_targets ws map start label b (suc k) l
      ≡ switch_targets ws map (start + slot_count ws (case_keys ws b)) (label + pad_count ws map (first_edge ws b) (term_y ws b)) (b + 1) k
      (switch_slots ws map start label b l)
  unfolding switch_targets
  targets_some start label b k l h = rw h

  pub targets_none : (start label b k : ℕ) (l : List ℕ) → has_switch ws b ≡ false
      → switch_targets ws map start label b (suc k) l ≡ switch_targets ws map start label (b + 1) k l
  unfolding switch_targets
  targets_none start label b k l h = rw h

  -- they leave what stands before them
  pub targets_keep : (start label b k : ℕ) (l : List ℕ) → length l ≡ start → (t : ℕ) → t < start
      → get_or (switch_targets ws map start label b k l) t 0 ≡ get_or l t 0
  unfolding switch_targets
  targets_keep start label b zero l long t h = refl
  targets_keep start label b (suc k) l long t h =
      ⊎_elim
      (λ (s : has_switch ws b ≡ true).
      ap (λ (x : List ℕ). get_or x t 0) (targets_some start label b k l s)
      ∙ targets_keep (start + slot_count ws (case_keys ws b)) (label + pad_count ws map (first_edge ws b) (term_y ws b)) (b + 1) k (switch_slots ws map start label b l)
      (slots_long ws map start label b l long) t (omega arith)
      ∙ slots_before ws map start label b l long t h)
      (λ (s : has_switch ws b ≡ false).
      ap (λ (x : List ℕ). get_or x t 0) (targets_none start label b k l s) ∙ targets_keep start label (b + 1) k l long t h)
      (both (has_switch ws b))

  -- and are as many as stand before them, or more
  pub targets_more : (start label b k : ℕ) (l : List ℕ) → length l ≡ start → start ≤ length (switch_targets ws map start label b k l)
  unfolding switch_targets
  targets_more start label b zero l long = omega (arith, long)
  targets_more start label b (suc k) l long =
      ⊎_elim
      (λ (s : has_switch ws b ≡ true).
      let e = ap length (targets_some start label b k l s) in
      let m = targets_more (start + slot_count ws (case_keys ws b)) (label + pad_count ws map (first_edge ws b) (term_y ws b)) (b + 1) k
      (switch_slots ws map start label b l) (slots_long ws map start label b l long) in
      omega (arith, e, m))
      (λ (s : has_switch ws b ≡ false).
      let e = ap length (targets_none start label b k l s) in
      let m = targets_more start label (b + 1) k l long in
      omega (arith, e, m))
      (both (has_switch ws b))
