-- Edges and branches from what their steps emit.
use mathlib.Core.Path.{◌≡◌, sym, ◌∙◌}
use mathlib.Core.Bool.{true, false}
use Prim.Native.Nat.{ℕ, ◌+◌}
use mathlib.Core.List.{List}
use borrow.Author.Tests.{eq-eqb, ne_eqb}
use Rattle.base.specs.declared.Pen.{Pen}
use Rattle.base.specs.Emission.{emit, emit_all, bind}
use Rattle.base.specs.Lent.{Lowers}
use Rattle.base.proofs.Pens.{then, renamed}
use Rattle.op.specs.declared.Op.{Op}
use Rattle.op.specs.Words.{word}
use Rattle.op.specs.Ops.{jmp}
use Rattle.input.specs.Records.{edge_target}
use Rattle.moves.specs.Moves.{move_words}
use Rattle.edges.specs.Pairs.{differing_sources, differing_destinations, move_pairs}
use Rattle.edges.specs.Edges.{edge_sources, edge_destinations, has_moves, nowhere, jump_to, edge, jump_at, branch}

-- the moves are those of the two columns
module _ (n : ℕ) (ws map : List ℕ) (next e target : ℕ) (ss ds : List ℕ) (es : ss ≡ differing_sources (edge_sources ws map e) (edge_destinations ws map e))
    (ed : ds ≡ differing_destinations (edge_sources ws map e) (edge_destinations ws map e)) (et : target ≡ edge_target ws e)
    {o b l o' b' : List ℕ} {p p' : Pen} (s : Lowers (emit_all (move_words n ss ds)) o b l p o' b' l p') where
  -- the target is next
  pub edge_falls : target ≡ next → Lowers (edge n ws map next e) o b l p o' b' l p'
  unfolding edge jump_to move_pairs
  edge_falls h = renamed s (λ q. rw (es, ed, eq-eqb (edge_target ws e) next (sym et ∙ h)))

  -- it is not
  pub edge_jumps : {w : ℕ} {o'' b'' : List ℕ} {p'' : Pen} → (target ≡ next → ⊥) → w ≡ word (jmp target) → Lowers (emit w) o' b' l p' o'' b'' l p''
      → Lowers (edge n ws map next e) o b l p o'' b'' l p''
  unfolding edge jump_to move_pairs
  edge_jumps h f g = renamed (then s g) (λ q. rw (es, ed, ne_eqb (edge_target ws e) next (λ (k : edge_target ws e ≡ next). h (et ∙ k)), f, et))

-- a branch whose no edge has no moves, and one whose no edge has
module _ (n : ℕ) (ws map : List ℕ) (jump : Op) (label next e : ℕ) {w : ℕ} {o b l o₁ b₁ o₂ b₂ : List ℕ} {p p₁ p₂ : Pen} where
  pub branch-plain : {no : ℕ} → has_moves ws map e ≡ false → no ≡ edge_target ws e → w ≡ jump_at jump no → Lowers (emit w) o b l p o₁ b₁ l p₁
      → Lowers (edge n ws map next (e + 1)) o₁ b₁ l p₁ o₂ b₂ l p₂ → Lowers (branch n ws map jump label next e) o b l p o₂ b₂ l p₂
  unfolding branch
  branch-plain h f g s t = renamed (then s t) (λ q. rw (h, g, f))

  pub branch-moves : {none : ℕ} {l' o₃ b₃ : List ℕ} {p₃ : Pen} → has_moves ws map e ≡ true → none ≡ nowhere ws → w ≡ jump_at jump label
      → Lowers (emit w) o b l p o₁ b₁ l p₁ → Lowers (edge n ws map none (e + 1)) o₁ b₁ l p₁ o₂ b₂ l p₂
      → Lowers (bind label) o₂ b₂ l p₂ o₂ b₂ l' p₂ → Lowers (edge n ws map next e) o₂ b₂ l' p₂ o₃ b₃ l' p₃
      → Lowers (branch n ws map jump label next e) o b l p o₃ b₃ l' p₃
  unfolding branch
  branch-moves h f g s t u v = renamed (then (then (then s t) u) v) (λ q. rw (h, g, f))
