-- Return of nothing, and of a value.
use mathlib.Core.Path.{◌≡◌, sym, ◌∙◌}
use Prim.Native.Nat.{ℕ}
use mathlib.Core.List.{List}
use borrow.Author.Tests.{eq-eqb, ne_eqb}
use Rattle.base.specs.declared.Pen.{Pen}
use Rattle.base.specs.Emission.{emit}
use Rattle.base.specs.Lent.{Lowers}
use Rattle.base.proofs.Pens.{then, renamed}
use Rattle.op.specs.Words.{word}
use Rattle.op.specs.Ops as op
use Rattle.input.specs.Records.{term_operand_count}
use Rattle.lower.specs.Operands.{operand_reg, fetched}
use Rattle.lower.proofs.Operands.{with-operand}
use Rattle.terms.specs.Terms.{term_place, return_ops}

module _ (n : ℕ) (ws places : List ℕ) (b₀ : ℕ) {count : ℕ} {o b l : List ℕ} {p : Pen} (e : count ≡ term_operand_count ws b₀) where
  pub return_none : {w : ℕ} {o' b' l' : List ℕ} {p' : Pen} → count ≡ 0 → w ≡ word op.ret → Lowers (emit w) o b l p o' b' l' p'
      → Lowers (return_ops n ws places b₀) o b l p o' b' l' p'
  unfolding return_ops
  return_none h f s = rw (eq-eqb (term_operand_count ws b₀) 0 (sym e ∙ h), ← f) s

  pub return-some : {a s v w : ℕ} {o₁ b₁ l₁ o₂ b₂ l₂ o₃ b₃ l₃ : List ℕ} {p₁ p₂ p₃ : Pen} → (count ≡ 0 → ⊥) → a ≡ term_place ws places b₀ 0
      → s ≡ operand_reg n a p.last → v ≡ word (op.mov 0 s) → w ≡ word op.ret → Lowers (fetched n a) o b l p o₁ b₁ l₁ p₁
      → Lowers (emit v) o₁ b₁ l₁ p₁ o₂ b₂ l₂ p₂ → Lowers (emit w) o₂ b₂ l₂ p₂ o₃ b₃ l₃ p₃
      → Lowers (return_ops n ws places b₀) o b l p o₃ b₃ l₃ p₃
  unfolding return_ops
  return-some {a} h f g v w x y z =
      rw (ne_eqb (term_operand_count ws b₀) 0 (λ (k : term_operand_count ws b₀ ≡ 0). h (e ∙ k)), ← f)
      (with-operand n a (λ s q. emit (word op.ret) (emit (word (op.mov 0 s)) q)) g (renamed (then (then x y) z) (λ q. rw (v, w))))
