-- The root's Ret.
use mathlib.Core.Path.{◌≡◌, sym, ◌∙◌}
use mathlib.Core.Bool.{true, false}
use Prim.Native.Nat.{ℕ}
use mathlib.Core.List.{List}
use borrow.Author.Tests.{eq-eqb, ne_eqb}
use Rattle.base.specs.Choice.{pick}
use Rattle.base.specs.declared.Pen.{Pen}
use Rattle.base.specs.Emission.{emit}
use Rattle.base.specs.Lent.{Lowers}
use Rattle.base.proofs.Pens.{lowers_none, renamed}
use Rattle.op.specs.Words.{word}
use Rattle.op.specs.Ops as op
use Rattle.input.specs.Layout.{function_id}
use Rattle.lower.proofs.Operands.{by_last}
use Rattle.body.specs.Body.{ends_flow, root_ret}

-- no function but the root gets a Ret, nor does a root that has one
module _ (ws : List ℕ) {id : ℕ} {o b l : List ℕ} {p : Pen} (e : id ≡ function_id ws) where
  pub root_other : (id ≡ 0 → ⊥) → Lowers (root_ret ws) o b l p o b l p
  unfolding root_ret
  root_other h = renamed (lowers_none o b l p) (λ q. rw (ne_eqb (function_id ws) 0 (λ (k : function_id ws ≡ 0). h (e ∙ k))))

  pub root_ends : id ≡ 0 → ends_flow p.last ≡ true → Lowers (root_ret ws) o b l p o b l p
  unfolding root_ret
  root_ends h k =
      renamed (by_last (λ t q. pick (ends_flow t) q (emit (word op.ret) q)) (renamed (lowers_none o b l p) (λ q. rw k)))
      (λ q. rw (eq-eqb (function_id ws) 0 (sym e ∙ h)))

  pub root_ret_lem : {w : ℕ} {o' b' l' : List ℕ} {p' : Pen} → id ≡ 0 → ends_flow p.last ≡ false → w ≡ word op.ret
      → Lowers (emit w) o b l p o' b' l' p' → Lowers (root_ret ws) o b l p o' b' l' p'
  unfolding root_ret
  root_ret_lem h k f s =
      renamed (by_last (λ t q. pick (ends_flow t) q (emit (word op.ret) q)) (renamed s (λ q. rw (k, f))))
      (λ q. rw (eq-eqb (function_id ws) 0 (sym e ∙ h)))
