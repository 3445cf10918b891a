-- Pads: the edges from e on that are left, of k.
use mathlib.Core.Path.{◌≡◌, refl, ap, ◌∙◌}
use mathlib.Core.Bool.{true, false}
use Prim.Native.Nat.{ℕ, suc, ◌+◌, ◌-◌, ◌≤◌, ◌<◌}
use mathlib.Core.List.{List}
use native.Mathlib.Nat.{add_assoc, add-zero}
use native.Mathlib.Omega.{arith}
use lib.Dec.{eqb}
use Rattle.base.specs.Choice.{pick}
use Rattle.base.specs.declared.Pen.{Pen}
use Rattle.base.specs.Emission.{Out, bind}
use Rattle.base.specs.Lent.{Lowers}
use Rattle.base.proofs.Pens.{then, renamed}
use Rattle.fit.proofs.Counts.{Counted, counted-turn, counted-end}
use Rattle.edges.specs.Edges.{has_moves, nowhere, edge, pad_count, pads, switch_edges}

module _ (ws map : List ℕ) (e : ℕ) where
  -- what the loop that counts them counts
  pads-counted : Counted (λ (j k : ℕ). pad_count ws map (e + j) k) (λ (k : ℕ). pad_count ws map e k) 0
      (λ (j : ℕ). ◌+◌ (pick (has_moves ws map (e + j)) 1 0))
  unfolding pad_count
  pads-counted =
      record {
        starts = λ (k : ℕ). ap (λ (x : ℕ). pad_count ws map x k) (add-zero e);
        turns = λ (j k : ℕ). ap (λ (x : ℕ). pick (has_moves ws map (e + j)) 1 0 + pad_count ws map x k) (add_assoc e j 1);
        ends = λ (j : ℕ). refl;
      }

  module _ (k : ℕ) where
    -- what is left to count at edge i
    abbrev pub count_from : ℕ → ℕ
    count_from i = pad_count ws map (e + i) (k - i)

    pub count_pad : (i : ℕ) → i < k → has_moves ws map (e + i) ≡ true → count_from i ≡ 1 + count_from (i + 1)
    count_pad i h t = counted-turn pads-counted k i h ∙ rw t

    pub count_skip : (i : ℕ) → i < k → has_moves ws map (e + i) ≡ false → count_from i ≡ 0 + count_from (i + 1)
    count_skip i h t = counted-turn pads-counted k i h ∙ rw t

    pub count-end : (i : ℕ) → k ≤ i → count_from i ≡ 0
    count-end i h = counted-end pads-counted k i h

  module _ (n k : ℕ) where
    -- what is left of the pads at edge i, the next pad's label being `pad`
    abbrev pub pads_from : ℕ → ℕ → Out → Out
    pads_from pad i = pads n ws map pad (e + i) (k - i)

    pub pads_pad : (pad i : ℕ) → i < k → has_moves ws map (e + i) ≡ true → {none : ℕ} → none ≡ nowhere ws → (q : Out)
        → pads_from pad i q ≡ pads_from (pad + 1) (i + 1) (edge n ws map none (e + i) (bind pad q))
    unfolding pads
    pads_pad pad i h t f q = let g : k - i ≡ suc (k - (i + 1)) = omega arith in rw (g, t, f, add_assoc e i 1)

    pub pads_skip : (pad i : ℕ) → i < k → has_moves ws map (e + i) ≡ false → (q : Out) → pads_from pad i q ≡ pads_from pad (i + 1) q
    unfolding pads
    pads_skip pad i h t q = let g : k - i ≡ suc (k - (i + 1)) = omega arith in rw (g, t, add_assoc e i 1)

    pub pads-end : (pad i : ℕ) → k ≤ i → (q : Out) → pads_from pad i q ≡ q
    unfolding pads
    pads-end pad i h q = let g : k - i ≡ 0 = omega arith in rw g

-- the default edge, then the pads
pub switch_edges_lem : (n : ℕ) (ws map : List ℕ) (label next e cases : ℕ) {after : ℕ} {o b l o₁ b₁ o₂ b₂ l' : List ℕ} {p p₁ p₂ : Pen}
    → after ≡ pick (eqb (pad_count ws map e cases) 0) next (nowhere ws) → Lowers (edge n ws map after (e + cases)) o b l p o₁ b₁ l p₁
    → Lowers (pads n ws map label e cases) o₁ b₁ l p₁ o₂ b₂ l' p₂ → Lowers (switch_edges n ws map label next e cases) o b l p o₂ b₂ l' p₂
unfolding switch_edges
switch_edges_lem n ws map label next e cases f s t = renamed (then s t) (λ q. rw f)
