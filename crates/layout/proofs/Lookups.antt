-- The heads of lookup tables: five numbers for each, one table behind the other, over the instructions of a block and over the blocks.
use mathlib.Core.Path.{◌≡◌, refl, sym, ap, ◌∙◌}
use mathlib.Core.Logic.{⊎_elim}
use mathlib.Core.Bool.{Bool, true, false}
use Prim.Native.Nat.{ℕ, zero, suc, ◌+◌, ◌*◌, ◌/◌, ◌<◌}
use mathlib.Core.List.{List, [], ◌++◌, append_assoc, append-nil}
use native.Mathlib.Nat.{add-zero}
use native.Mathlib.Omega.{arith}
use borrow.Author.Tests.{eq-eqb}
use lib.Dec.{eqb}
use lib.ListN.{length, take, drop, length-append}
use lib.Seq.{drop_at}
use Rattle.base.proofs.Numbers.{both}
use Rattle.input.specs.Records.{is_live, first_instr, instr_count, instr_kind, lookup}
use Rattle.tables.specs.Tables.{slot_count, entry_keys, lookup_head, lookup_heads, slots_in, blocks_heads, lookup_heads_after}
use Rattle.instrs.specs.Instrs.{lookups_in}

module _ (ws : List ℕ) where
  abbrev is_lookup : ℕ → Bool
  is_lookup i = eqb (instr_kind ws i) lookup

  -- ---- one instruction and the rest
  module _ (start i k : ℕ) (l : List ℕ) where
    looks_some : is_lookup i ≡ true
        → lookup_heads ws start i (suc k) l ≡ lookup_heads ws (start + slot_count ws (entry_keys ws i)) (i + 1) k (l ++ lookup_head ws i start)
    unfolding lookup_heads
    looks_some h = rw h

    looks_none : is_lookup i ≡ false → lookup_heads ws start i (suc k) l ≡ lookup_heads ws start (i + 1) k l
    unfolding lookup_heads
    looks_none h = rw h

  module _ (i k : ℕ) where
    count-some : is_lookup i ≡ true → lookups_in ws i (suc k) ≡ 1 + lookups_in ws (i + 1) k
    unfolding lookups_in
    count-some h = rw h

    count_none : is_lookup i ≡ false → lookups_in ws i (suc k) ≡ 0 + lookups_in ws (i + 1) k
    unfolding lookups_in
    count_none h = rw h

    slots_some : is_lookup i ≡ true → slots_in ws i (suc k) ≡ slot_count ws (entry_keys ws i) + slots_in ws (i + 1) k
    unfolding slots_in
    slots_some h = rw h

    slots_none : is_lookup i ≡ false → slots_in ws i (suc k) ≡ 0 + slots_in ws (i + 1) k
    unfolding slots_in
    slots_none h = rw h

  count-zero : (i : ℕ) → lookups_in ws i 0 ≡ 0
  unfolding lookups_in
  count-zero i = refl

  slots_zero : (i : ℕ) → slots_in ws i 0 ≡ 0
  unfolding slots_in
  slots_zero i = refl

  -- they stand behind those before them
  looks_behind : (start i k : ℕ) (l : List ℕ) → lookup_heads ws start i k l ≡ l ++ lookup_heads ws start i k []
  unfolding lookup_heads
  looks_behind start i zero l = sym (append-nil l)
  looks_behind start i (suc k) l =
      ⊎_elim
      (λ (s : is_lookup i ≡ true).
      let next : ℕ = start + slot_count ws (entry_keys ws i) in
      let head : List ℕ = lookup_head ws i start in
      looks_some start i k l s ∙ looks_behind next (i + 1) k (l ++ head) ∙ append_assoc l head (lookup_heads ws next (i + 1) k [])
      ∙ ap (λ (x : List ℕ). l ++ x) (sym (looks_some start i k [] s ∙ looks_behind next (i + 1) k head)))
      (λ (s : is_lookup i ≡ false).
      looks_none start i k l s ∙ looks_behind start (i + 1) k l ∙ ap (λ (x : List ℕ). l ++ x) (sym (looks_none start i k [] s)))
      (both (is_lookup i))

  -- one table more
  head_long : (start i table : ℕ) (l : List ℕ) → length l ≡ 5 * table → length (l ++ lookup_head ws i start) ≡ 5 * (table + 1)
  head_long start i table l h = let e = length-append l (lookup_head ws i start) in omega (arith, e, h)

  looks_long : (start i k table : ℕ) (l : List ℕ) → length l ≡ 5 * table → length (lookup_heads ws start i k l) ≡ 5 * (table + lookups_in ws i k)
  unfolding lookup_heads
  looks_long start i zero table l h = omega (arith, h, count-zero i)
  looks_long start i (suc k) table l h =
      ⊎_elim
      (λ (s : is_lookup i ≡ true).
      let e = looks_long (start + slot_count ws (entry_keys ws i)) (i + 1) k (table + 1) (l ++ lookup_head ws i start) (head_long start i table l h) in
      rw (looks_some start i k l s) (omega (arith, e, count-some i k s)))
      (λ (s : is_lookup i ≡ false).
      let e = looks_long start (i + 1) k table l h in
      rw (looks_none start i k l s) (omega (arith, e, count_none i k s)))
      (both (is_lookup i))

  -- a Lookup's head stands behind those of the tables before it, whatever follows
  looks_at : (start i k j table : ℕ) (l rest : List ℕ) → length l ≡ 5 * table → j < k → instr_kind ws (i + j) ≡ lookup
      → take 5 (drop (5 * (table + lookups_in ws i j)) (lookup_heads ws start i k l ++ rest)) ≡ lookup_head ws (i + j) (start + slots_in ws i j)
  unfolding lookup_heads
  looks_at start i zero j table l rest long h is = absurd (omega arith)
  looks_at start i (suc k) zero table l rest long h is =
      let z : i + 0 ≡ i = add-zero i in
      let c : table + lookups_in ws i 0 ≡ table = omega (arith, count-zero i) in
      let d : start + slots_in ws i 0 ≡ start = omega (arith, slots_zero i) in
      let s : is_lookup i ≡ true = eq-eqb (instr_kind ws i) lookup (rw z at is) in
      let head : List ℕ = lookup_head ws i start in
      let tail : List ℕ = lookup_heads ws (start + slot_count ws (entry_keys ws i)) (i + 1) k [] in
      let e : lookup_heads ws start i (suc k) l ++ rest ≡ l ++ (head ++ (tail ++ rest)) =
      ap (λ (x : List ℕ). x ++ rest) (looks_some start i k l s ∙ looks_behind (start + slot_count ws (entry_keys ws i)) (i + 1) k (l ++ head) ∙ append_assoc l head tail)
      ∙ append_assoc l (head ++ tail) rest ∙ ap (λ (x : List ℕ). l ++ x) (append_assoc head tail rest) in
      rw (z, c, d) (ap (λ (x : List ℕ). take 5 (drop (5 * table) x)) e ∙ ap (take 5) (drop_at l (head ++ (tail ++ rest)) (5 * table) long))
  looks_at start i (suc k) (suc j) table l rest long h is =
      let a : i + suc j ≡ i + 1 + j = omega arith in
      let is' : instr_kind ws (i + 1 + j) ≡ lookup = rw a at is in
      ⊎_elim
      (λ (s : is_lookup i ≡ true).
      let next : ℕ = start + slot_count ws (entry_keys ws i) in
      let c : table + lookups_in ws i (suc j) ≡ table + 1 + lookups_in ws (i + 1) j = omega (arith, count-some i j s) in
      let d : start + slots_in ws i (suc j) ≡ next + slots_in ws (i + 1) j = omega (arith, slots_some i j s) in
      rw (a, c, d, looks_some start i k l s)
      (looks_at next (i + 1) k j (table + 1) (l ++ lookup_head ws i start) rest (head_long start i table l long) (omega arith) is'))
      (λ (s : is_lookup i ≡ false).
      let c : table + lookups_in ws i (suc j) ≡ table + lookups_in ws (i + 1) j = omega (arith, count_none i j s) in
      let d : start + slots_in ws i (suc j) ≡ start + slots_in ws (i + 1) j = omega (arith, slots_none i j s) in
      rw (a, c, d, looks_none start i k l s) (looks_at start (i + 1) k j table l rest long (omega arith) is'))
      (both (is_lookup i))

  -- ---- one block and the rest
  module _ (start b k : ℕ) (l : List ℕ) where
    blocks-some : is_live ws b ≡ true
        → blocks_heads ws start b (suc k) l
        ≡ blocks_heads ws (start + slots_in ws (first_instr ws b) (instr_count ws b)) (b + 1) k (lookup_heads ws start (first_instr ws b) (instr_count ws b) l)
    unfolding blocks_heads
    blocks-some h = rw h

    blocks_none : is_live ws b ≡ false → blocks_heads ws start b (suc k) l ≡ blocks_heads ws start (b + 1) k l
    unfolding blocks_heads
    blocks_none h = rw h

  blocks-behind : (start b k : ℕ) (l : List ℕ) → blocks_heads ws start b k l ≡ l ++ blocks_heads ws start b k []
  unfolding blocks_heads
  blocks-behind start b zero l = sym (append-nil l)
  blocks-behind start b (suc k) l =
      ⊎_elim
      (λ (s : is_live ws b ≡ true).
      let next : ℕ = start + slots_in ws (first_instr ws b) (instr_count ws b) in
      let mine : List ℕ = lookup_heads ws start (first_instr ws b) (instr_count ws b) [] in
      let rest : List ℕ = blocks_heads ws next (b + 1) k [] in
      blocks-some start b k l s ∙ blocks-behind next (b + 1) k (lookup_heads ws start (first_instr ws b) (instr_count ws b) l)
      ∙ ap (λ (x : List ℕ). x ++ rest) (looks_behind start (first_instr ws b) (instr_count ws b) l) ∙ append_assoc l mine rest
      ∙ ap (λ (x : List ℕ). l ++ x) (sym (blocks-some start b k [] s ∙ blocks-behind next (b + 1) k mine)))
      (λ (s : is_live ws b ≡ false).
      blocks_none start b k l s ∙ blocks-behind start (b + 1) k l ∙ ap (λ (x : List ℕ). l ++ x) (sym (blocks_none start b k [] s)))
      (both (is_live ws b))

  -- all are five numbers each
  blocks_fifths : (start b k table : ℕ) (l : List ℕ) → length l ≡ 5 * table → 5 * (length (blocks_heads ws start b k l) / 5) ≡ length (blocks_heads ws start b k l)
  unfolding blocks_heads
  blocks_fifths start b zero table l long = omega (arith, long)
  blocks_fifths start b (suc k) table l long =
      ⊎_elim
      (λ (s : is_live ws b ≡ true).
      rw (blocks-some start b k l s)
      (blocks_fifths (start + slots_in ws (first_instr ws b) (instr_count ws b)) (b + 1) k (table + lookups_in ws (first_instr ws b) (instr_count ws b))
      (lookup_heads ws start (first_instr ws b) (instr_count ws b) l) (looks_long start (first_instr ws b) (instr_count ws b) table l long)))
      (λ (s : is_live ws b ≡ false). rw (blocks_none start b k l s) (blocks_fifths start (b + 1) k table l long))
      (both (is_live ws b))

  pub after_fifths : (start table : ℕ) (l : List ℕ) → length l ≡ 5 * table
      → 5 * (length (lookup_heads_after ws start l) / 5) ≡ length (lookup_heads_after ws start l)
  unfolding lookup_heads_after
  after_fifths start table l long = blocks_fifths start 0 _ table l long

-- those of k blocks from b on are left to be put behind m, the next table's number being `table`
pub record Looked (ws whole : List ℕ) (b k table : ℕ) : Type 0 where
  pub start : ℕ
  pub m : List ℕ
  pub long : length m ≡ 5 * table
  pub rest : blocks_heads ws start b k m ≡ whole

module _ {ws whole : List ℕ} {b k table : ℕ} (L : Looked ws whole b (suc k) table) where
  pub looked_dead : is_live ws b ≡ false → Looked ws whole (b + 1) k table
  looked_dead h = record { start = L.start; m = L.m; long = L.long; rest = sym (blocks_none ws L.start b k L.m h) ∙ L.rest }

  pub looked_live : is_live ws b ≡ true → Looked ws whole (b + 1) k (table + lookups_in ws (first_instr ws b) (instr_count ws b))
  looked_live h =
      record {
        start = L.start + slots_in ws (first_instr ws b) (instr_count ws b);
        m = lookup_heads ws L.start (first_instr ws b) (instr_count ws b) L.m;
        long = looks_long ws L.start (first_instr ws b) (instr_count ws b) table L.m L.long;
        rest = sym (blocks-some ws L.start b k L.m h) ∙ L.rest;
      }

  -- what the whole has of a Lookup of this block
  pub looked_at : is_live ws b ≡ true → (j : ℕ) → j < instr_count ws b → instr_kind ws (first_instr ws b + j) ≡ lookup
      → take 5 (drop (5 * (table + lookups_in ws (first_instr ws b) j)) whole) ≡ lookup_head ws (first_instr ws b + j) (L.start + slots_in ws (first_instr ws b) j)
  looked_at h j g is =
      let next : ℕ = L.start + slots_in ws (first_instr ws b) (instr_count ws b) in
      let mine : List ℕ = lookup_heads ws L.start (first_instr ws b) (instr_count ws b) L.m in
      let e : whole ≡ mine ++ blocks_heads ws next (b + 1) k [] =
      sym L.rest ∙ blocks-some ws L.start b k L.m h ∙ blocks-behind ws next (b + 1) k mine in
      ap (λ (x : List ℕ). take 5 (drop (5 * (table + lookups_in ws (first_instr ws b) j)) x)) e
      ∙ looks_at ws L.start (first_instr ws b) (instr_count ws b) j table L.m (blocks_heads ws next (b + 1) k []) L.long g is
