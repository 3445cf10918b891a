-- What LoadConst does, by its constant.
use mathlib.Core.Path.{◌≡◌, refl, sym, ◌∙◌}
use Prim.Native.Nat.{ℕ, zero, suc, ◌%◌, ◌^◌, ◌<◌}
use mathlib.Core.Bool.{Bool, true, false, true≢false}
use mathlib.Core.List.{List}
use native.Mathlib.Omega.{arith}
use borrow.Author.Tests.{lt-ltb, ne_eqb}
use lib.Dec.{eqb}
use Rattle.base.specs.Choice.{pick}
use Rattle.base.specs.declared.Pen.{Pen}
use Rattle.base.specs.Emission.{Out, emit}
use Rattle.base.specs.Lent.{Lowers}
use Rattle.base.proofs.Pens.{renamed}
use Rattle.op.specs.Words.{word}
use Rattle.op.specs.Ops.{load_i, load_g}
use Rattle.input.specs.Records.{undefined_const, true_const, int_const}
use Rattle.lower.specs.Operands.{dest_reg, stored}
use Rattle.lower.specs.Instructions.{is_global, const_ops, lower_const}

-- a kind above Int's is a global
kind_global : (kind payload : ℕ) → 3 < kind → is_global kind payload ≡ true
unfolding is_global
kind_global kind payload h = rw (ne_eqb kind 3 (λ e. omega arith), lt-ltb 3 kind h)

-- a constant that is neither a global nor Undefined is loaded by LoadI
loaded_is : (kind payload global d : ℕ) → is_global kind payload ≡ false → (kind ≡ undefined_const → ⊥) → (q : Out)
    → emit (word (load_i d (pick (eqb kind int_const) (payload % 2 ^ 32) (pick (eqb kind true_const) 1 0)))) q ≡ const_ops kind payload global d q
unfolding is_global const_ops
loaded_is zero payload global d g h q = absurd (h refl)
loaded_is (suc zero) payload global d g h q = refl
loaded_is (suc (suc zero)) payload global d g h q = refl
loaded_is (suc (suc (suc zero))) payload global d g h q = rw g
loaded_is (suc (suc (suc (suc k)))) payload global d g h q = absurd (true≢false (sym (kind_global (suc (suc (suc (suc k)))) payload (omega arith)) ∙ g))

module _ (n dst kind payload global : ℕ) {o b l o' b' l' : List ℕ} {p p' : Pen} where
  pub const_global : {is : Bool} {w d : ℕ} → is ≡ is_global kind payload → is ≡ true → d ≡ dest_reg n dst → w ≡ word (load_g d global)
      → Lowers (λ q. stored n dst (emit w q)) o b l p o' b' l' p' → Lowers (lower_const n dst kind payload global) o b l p o' b' l' p'
  unfolding lower_const const_ops
  const_global i t e f x = renamed x (λ q. rw (sym i ∙ t, f, e))

  pub const_none : {is : Bool} → is ≡ is_global kind payload → is ≡ false → kind ≡ undefined_const → Lowers (stored n dst) o b l p o' b' l' p'
      → Lowers (lower_const n dst kind payload global) o b l p o' b' l' p'
  unfolding lower_const const_ops
  const_none i t k x = renamed x (λ q. rw (sym i ∙ t, k))

  pub const_loaded : {is : Bool} {v w d : ℕ} → is ≡ is_global kind payload → is ≡ false → (kind ≡ undefined_const → ⊥)
      → v ≡ pick (eqb kind int_const) (payload % 2 ^ 32) (pick (eqb kind true_const) 1 0) → d ≡ dest_reg n dst → w ≡ word (load_i d v)
      → Lowers (λ q. stored n dst (emit w q)) o b l p o' b' l' p' → Lowers (lower_const n dst kind payload global) o b l p o' b' l' p'
  unfolding lower_const
  const_loaded i t k v e f x =
      renamed x (λ q. rw (f, v, e, loaded_is kind payload global (dest_reg n dst) (sym i ∙ t) k q))
