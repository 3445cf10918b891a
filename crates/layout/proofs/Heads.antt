-- The heads of switch tables: three numbers for each, one table behind the other.
use mathlib.Core.Path.{◌≡◌, sym, ap, ◌∙◌}
use mathlib.Core.Logic.{⊎_elim}
use mathlib.Core.Bool.{true, false}
use Prim.Native.Nat.{ℕ, zero, suc, ◌+◌, ◌*◌, ◌/◌}
use mathlib.Core.List.{List, [], ◌++◌, append_assoc, append-nil}
use native.Mathlib.Omega.{arith}
use lib.ListN.{length, take, drop, length-append}
use lib.Seq.{drop_at}
use Rattle.base.proofs.Numbers.{both}
use Rattle.tables.specs.Tables.{slot_count, case_keys, switch_head, has_switch, switch_heads, switch_heads_after}

module _ (ws : List ℕ) where
  pub heads_some : (start b k : ℕ) (l : List ℕ) → has_switch ws b ≡ true
      → switch_heads ws start b (suc k) l ≡ switch_heads ws (start + slot_count ws (case_keys ws b)) (b + 1) k (l ++ switch_head ws b start)
  unfolding switch_heads
  heads_some start b k l h = rw h

  pub heads_none : (start b k : ℕ) (l : List ℕ) → has_switch ws b ≡ false → switch_heads ws start b (suc k) l ≡ switch_heads ws start (b + 1) k l
  unfolding switch_heads
  heads_none start b k l h = rw h

  -- one table more
  pub head_long : (start b table : ℕ) (l : List ℕ) → length l ≡ 3 * table → length (l ++ switch_head ws b start) ≡ 3 * (table + 1)
  head_long start b table l h = let e = length-append l (switch_head ws b start) in omega (arith, e, h)

  -- they stand behind those before them
  heads_behind : (start b k : ℕ) (l : List ℕ) → switch_heads ws start b k l ≡ l ++ switch_heads ws start b k []
  unfolding switch_heads
  heads_behind start b zero l = sym (append-nil l)
  heads_behind start b (suc k) l =
      ⊎_elim
      (λ (s : has_switch ws b ≡ true).
      let next : ℕ = start + slot_count ws (case_keys ws b) in
      let head : List ℕ = switch_head ws b start in
      heads_some start b k l s ∙ heads_behind next (b + 1) k (l ++ head) ∙ append_assoc l head (switch_heads ws next (b + 1) k [])
      ∙ ap (λ (x : List ℕ). l ++ x) (sym (heads_some start b k [] s ∙ heads_behind next (b + 1) k head)))
      (λ (s : has_switch ws b ≡ false).
      heads_none start b k l s ∙ heads_behind start (b + 1) k l ∙ ap (λ (x : List ℕ). l ++ x) (sym (heads_none start b k [] s)))
      (both (has_switch ws b))

  -- the first of them is its block's
  pub heads_first : (start b k table : ℕ) (l : List ℕ) → length l ≡ 3 * table → has_switch ws b ≡ true
      → take 3 (drop (3 * table) (switch_heads ws start b (suc k) l)) ≡ switch_head ws b start
  heads_first start b k table l long h =
      let next : ℕ = start + slot_count ws (case_keys ws b) in
      let head : List ℕ = switch_head ws b start in
      let rest : List ℕ = switch_heads ws next (b + 1) k [] in
      let e : switch_heads ws start b (suc k) l ≡ l ++ (head ++ rest) =
      heads_some start b k l h ∙ heads_behind next (b + 1) k (l ++ head) ∙ append_assoc l head rest in
      ap (λ (x : List ℕ). take 3 (drop (3 * table) x)) e ∙ ap (take 3) (drop_at l (head ++ rest) (3 * table) long)

  -- and all are three numbers each
  heads_thirds : (start b k table : ℕ) (l : List ℕ) → length l ≡ 3 * table
      → 3 * (length (switch_heads ws start b k l) / 3) ≡ length (switch_heads ws start b k l)
  unfolding switch_heads
  heads_thirds start b zero table l long = omega (arith, long)
  heads_thirds start b (suc k) table l long =
      ⊎_elim
      (λ (s : has_switch ws b ≡ true).
      rw (heads_some start b k l s)
      (heads_thirds (start + slot_count ws (case_keys ws b)) (b + 1) k (table + 1) (l ++ switch_head ws b start) (head_long start b table l long)))
      (λ (s : has_switch ws b ≡ false). rw (heads_none start b k l s) (heads_thirds start (b + 1) k table l long))
      (both (has_switch ws b))

  pub after_thirds : (start table : ℕ) (l : List ℕ) → length l ≡ 3 * table
      → 3 * (length (switch_heads_after ws start l) / 3) ≡ length (switch_heads_after ws start l)
  unfolding switch_heads_after
  after_thirds start table l long = heads_thirds start 0 _ table l long
