-- What every step of a list keeps, the whole keeps; so each list starts with the words that it grew from.
use mathlib.Core.Path.{◌≡◌, ◌∙◌}
use mathlib.Core.Bool.{Bool}
use Prim.Native.Nat.{ℕ, zero, suc, ◌+◌, ◌*◌, ◌≤◌}
use mathlib.Core.List.{List, [], ◌∷◌, ◌++◌}
use native.Mathlib.Omega.{arith}
use lib.Dec.{ltb, eqb}
use lib.ListN.{length, take, set, length-append, length-set, replicate}
use lib.Seq.{take_all, take-append-le, take-set-le, length-take-le}
use Rattle.base.proofs.Numbers.{pick-both}
use Rattle.input.specs.Layout.{blocks}
use Rattle.input.specs.Records.{is_live, instr_kind, lookup, constant_kind, payload_of, instr_x, instr_y, first_instr, instr_count, first_edge, term_x, term_y, edge_target}
use Rattle.rows.specs.Rows.{rows_of, over_rows}
use Rattle.lower.specs.Instructions.{is_global}
use Rattle.edges.specs.Edges.{has_moves, pad_count}
use Rattle.interning.specs.Interning.{global_of, builtin_of, intern, intern_all, is_string, row_constants, strings_interned, row_loaded, globals_after, intern_builtin, intern_builtins, row_builtins, builtins_after}
use Rattle.tables.specs.Tables.{slot_count, slot_for, case_keys, switch_head, store_cases, switch_slots, has_switch, switch_heads, switch_targets, entry_keys, default_of, lookup_head, filled, store_entries, lookup_slots, lookup_heads, lookup_values, slots_in, blocks_heads, blocks_values, switch_heads_after, switch_targets_after, lookup_heads_after, lookup_values_after}

-- ---- constants, by pairs

module _ (P : List ℕ → Type 0) (pair : (l : List ℕ) (x y : ℕ) → P l → P (l ++ (x ∷ y ∷ []))) (ws : List ℕ) where
  constant_keeps : (kind payload : ℕ) (l : List ℕ) → P l → P (intern kind payload l)
  unfolding intern
  constant_keeps kind payload l h = pick-both P (ltb (2 * global_of kind payload l) (length l)) l (l ++ (kind ∷ payload ∷ [])) h (pair l kind payload h)

  constants-keep : (asked : ℕ → ℕ → Bool) (cs l : List ℕ) → P l → P (intern_all asked ws cs l)
  unfolding intern_all
  constants-keep asked [] l h = h
  constants-keep asked (c ∷ cs) l h =
      constants-keep asked cs _
      (pick-both P (asked (constant_kind ws c) (payload_of ws c)) _ l (constant_keeps (constant_kind ws c) (payload_of ws c) l h) h)

  pub globals_keep : (l : List ℕ) → P l → P (globals_after ws l)
  unfolding globals_after strings_interned
  globals_keep l h =
      constants-keep is_global (over_rows (row_loaded ws) 0 (rows_of ws)) _
      (constants-keep is_string (over_rows (row_constants ws) 0 (rows_of ws)) l h)

-- ---- the others, by what is put behind and by stores from some place on

record Keeps (from : ℕ) (P : List ℕ → Type 0) : Type 0 where
  more : (l xs : List ℕ) → P l → P (l ++ xs)
  store : (l : List ℕ) (i x : ℕ) → from ≤ i → P l → P (set l i x)

module _ {from : ℕ} {P : List ℕ → Type 0} (k : Keeps from P) (ws : List ℕ) where
  builtin_keeps : (xs l : List ℕ) → P l → P (intern_builtins xs l)
  unfolding intern_builtins intern_builtin
  builtin_keeps [] l h = h
  builtin_keeps (x ∷ xs) l h =
      builtin_keeps xs (intern_builtin x l) (pick-both P (ltb (builtin_of x l) (length l)) l (l ++ (x ∷ [])) h (k.more l (x ∷ []) h))

  builtins_keep : (l : List ℕ) → P l → P (builtins_after ws l)
  unfolding builtins_after
  builtins_keep l h = builtin_keeps (over_rows (row_builtins ws) 0 (rows_of ws)) l h

  switches_keep : (start b n : ℕ) (l : List ℕ) → P l → P (switch_heads ws start b n l)
  unfolding switch_heads
  switches_keep start b zero l h = h
  switches_keep start b (suc n) l h =
      pick-both P (has_switch ws b) _ _
      (switches_keep (start + slot_count ws (case_keys ws b)) (b + 1) n _ (k.more l (switch_head ws b start) h))
      (switches_keep start (b + 1) n l h)

  cases-keep : (map keys : List ℕ) (start label c e n : ℕ) (l : List ℕ) → from ≤ start → P l → P (store_cases ws map keys start label c e n l)
  unfolding store_cases
  cases-keep map keys start label c e zero l s h = h
  cases-keep map keys start label c e (suc n) l s h =
      let at : from ≤ start + slot_for ws keys c = omega arith in
      pick-both P (has_moves ws map e) _ _
      (cases-keep map keys start (label + 1) (c + 1) (e + 1) n _ s (k.store l (start + slot_for ws keys c) label at h))
      (cases-keep map keys start label (c + 1) (e + 1) n _ s (k.store l (start + slot_for ws keys c) (edge_target ws e) at h))

  targets_keep : (map : List ℕ) (start label b n : ℕ) (l : List ℕ) → from ≤ start → P l → P (switch_targets ws map start label b n l)
  unfolding switch_targets switch_slots
  targets_keep map start label b zero l s h = h
  targets_keep map start label b (suc n) l s h =
      pick-both P (has_switch ws b) _ _
      (targets_keep map (start + slot_count ws (case_keys ws b)) (label + pad_count ws map (first_edge ws b) (term_y ws b)) (b + 1) n _ (omega arith)
      (cases-keep map (case_keys ws b) start label (term_x ws b) (first_edge ws b) (term_y ws b) _ s
      (k.more l (replicate (slot_count ws (case_keys ws b)) (edge_target ws (first_edge ws b + term_y ws b))) h)))
      (targets_keep map start label (b + 1) n l s h)

  heads_keep : (start i n : ℕ) (l : List ℕ) → P l → P (lookup_heads ws start i n l)
  unfolding lookup_heads
  heads_keep start i zero l h = h
  heads_keep start i (suc n) l h =
      pick-both P (eqb (instr_kind ws i) lookup) _ _
      (heads_keep (start + slot_count ws (entry_keys ws i)) (i + 1) n _ (k.more l (lookup_head ws i start) h))
      (heads_keep start (i + 1) n l h)

  lookups_keep : (start b n : ℕ) (l : List ℕ) → P l → P (blocks_heads ws start b n l)
  unfolding blocks_heads
  lookups_keep start b zero l h = h
  lookups_keep start b (suc n) l h =
      pick-both P (is_live ws b) _ _
      (lookups_keep (start + slots_in ws (first_instr ws b) (instr_count ws b)) (b + 1) n _ (heads_keep start (first_instr ws b) (instr_count ws b) l h))
      (lookups_keep start (b + 1) n l h)

  entries-keep : (keys : List ℕ) (start c n : ℕ) (l : List ℕ) → from ≤ 2 * start → P l → P (store_entries ws keys start c n l)
  unfolding store_entries
  entries-keep keys start c zero l s h = h
  entries-keep keys start c (suc n) l s h =
      entries-keep keys start (c + 2) n _ s
      (k.store _ (2 * (start + slot_for ws keys c) + 1) (payload_of ws (c + 1)) (omega arith)
      (k.store l (2 * (start + slot_for ws keys c)) (constant_kind ws (c + 1)) (omega arith) h))

  slots_keep : (start i n : ℕ) (l : List ℕ) → from ≤ 2 * start → P l → P (lookup_values ws start i n l)
  unfolding lookup_values lookup_slots
  slots_keep start i zero l s h = h
  slots_keep start i (suc n) l s h =
      pick-both P (eqb (instr_kind ws i) lookup) _ _
      (slots_keep (start + slot_count ws (entry_keys ws i)) (i + 1) n _ (omega arith)
      (entries-keep (entry_keys ws i) start (instr_x ws i) (instr_y ws i) _ s
      (k.more l (filled (constant_kind ws (default_of ws i)) (payload_of ws (default_of ws i)) (slot_count ws (entry_keys ws i))) h)))
      (slots_keep start (i + 1) n l s h)

  values-keep : (start b n : ℕ) (l : List ℕ) → from ≤ 2 * start → P l → P (blocks_values ws start b n l)
  unfolding blocks_values
  values-keep start b zero l s h = h
  values-keep start b (suc n) l s h =
      pick-both P (is_live ws b) _ _
      (values-keep (start + slots_in ws (first_instr ws b) (instr_count ws b)) (b + 1) n _ (omega arith)
      (slots_keep start (first_instr ws b) (instr_count ws b) l s h))
      (values-keep start (b + 1) n l s h)

-- ---- a list that starts with n words

pub record Starts (front : List ℕ) (n : ℕ) (l : List ℕ) : Type 0 where
  pub is : take n l ≡ front
  pub long : n ≤ length l

starts_kept : (front : List ℕ) (n : ℕ) → Keeps n (Starts front n)
starts_kept front n =
    record {
      more = λ l xs h.
          record { is = take-append-le n l xs h.long ∙ h.is; long = simp length-append (omega (arith, h.long)) };
      store = λ l i x s h.
          record { is = take-set-le n l i x s ∙ h.is; long = simp length-set h.long };
    }

module _ (ws b : List ℕ) (used : ℕ) where
  starts : (n : ℕ) → n ≤ length b → Starts (take n b) n (take n b)
  starts n h =
      let e : length (take n b) ≡ n = length-take-le n b h in
      record { is = take_all n (take n b) (omega arith); long = omega arith }

  pub globals_start : used ≤ length b → Starts (take used b) used (globals_after ws (take used b))
  globals_start h = globals_keep _ (λ l x y. (starts_kept (take used b) used).more l (x ∷ y ∷ [])) ws _ (starts used h)

  pub builtins_start : used ≤ length b → Starts (take used b) used (builtins_after ws (take used b))
  builtins_start h = builtins_keep (starts_kept (take used b) used) ws _ (starts used h)

  pub switches_start : (slots : ℕ) → used ≤ length b → Starts (take used b) used (switch_heads_after ws slots (take used b))
  unfolding switch_heads_after
  switches_start slots h = switches_keep (starts_kept (take used b) used) ws slots 0 (blocks ws) _ (starts used h)

  pub targets_start : (places : List ℕ) → used ≤ length b → Starts (take used b) used (switch_targets_after ws places used (take used b))
  unfolding switch_targets_after
  targets_start places h =
      targets_keep (starts_kept (take used b) used) ws places used (2 * blocks ws) 0 (blocks ws) _ (omega arith) (starts used h)

  pub lookups_start : (slots : ℕ) → used ≤ length b → Starts (take used b) used (lookup_heads_after ws slots (take used b))
  unfolding lookup_heads_after
  lookups_start slots h = lookups_keep (starts_kept (take used b) used) ws slots 0 (blocks ws) _ (starts used h)

  pub values-start : 2 * used ≤ length b → Starts (take (2 * used) b) (2 * used) (lookup_values_after ws used (take (2 * used) b))
  unfolding lookup_values_after
  values-start h = values-keep (starts_kept (take (2 * used) b) (2 * used)) ws used 0 (blocks ws) _ (omega arith) (starts (2 * used) h)
