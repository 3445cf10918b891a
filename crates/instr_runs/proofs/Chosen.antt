-- A rule that a kind chooses, a rule by its arguments, and the bounds that a kind sets.
use mathlib.Core.Path.{◌≡◌}
use mathlib.Core.Bool.{true, false}
use Prim.Native.Nat.{ℕ, ◌≤◌}
use mathlib.Core.List.{List}
use borrow.Author.Tests.{ne_eqb}
use lib.Dec.{eqb}
use Rattle.base.specs.declared.Pen.{Pen}
use Rattle.base.specs.Emission.{Out}
use Rattle.base.specs.Lent.{Lowers}
use Rattle.base.proofs.Pens.{lowers_none}
use Rattle.input.specs.Records.{instr_kind, instr_x, instr_z, bin, bin_imm, cast, alloc, store, assert, load, addr_of}
use Rattle.input.specs.Forms.{instr_form, instr_ok}
use Rattle.input.proofs.Words.{instr_says}
use Rattle.instrs.specs.Instrs.{memory_ops, compute_ops}

-- a rule of one argument, two, three, four, by what the code found them to be
module _ {o b l o' b' l' : List ℕ} {p p' : Pen} where
  pub of_1 : (f : ℕ → Out → Out) {w w' : ℕ} → w ≡ w' → Lowers (f w) o b l p o' b' l' p' → Lowers (f w') o b l p o' b' l' p'
  of_1 f e s = rw (← e) s

  pub of_2 : (f : ℕ → ℕ → Out → Out) {w x w' x' : ℕ} → w ≡ w' → x ≡ x' → Lowers (f w x) o b l p o' b' l' p' → Lowers (f w' x') o b l p o' b' l' p'
  of_2 f e e₁ s = rw (← e, ← e₁) s

  pub of_3 : (f : ℕ → ℕ → ℕ → Out → Out) {w x y w' x' y' : ℕ} → w ≡ w' → x ≡ x' → y ≡ y' → Lowers (f w x y) o b l p o' b' l' p'
      → Lowers (f w' x' y') o b l p o' b' l' p'
  of_3 f e e₁ e₂ s = rw (← e, ← e₁, ← e₂) s

  pub of_4 : (f : ℕ → ℕ → ℕ → ℕ → Out → Out) {w x y z w' x' y' z' : ℕ} → w ≡ w' → x ≡ x' → y ≡ y' → z ≡ z' → Lowers (f w x y z) o b l p o' b' l' p'
      → Lowers (f w' x' y' z') o b l p o' b' l' p'
  of_4 f e e₁ e₂ e₃ s = rw (← e, ← e₁, ← e₂, ← e₃) s

-- a kind that the code found to be none of four
abbrev pub Others : ℕ → ℕ → ℕ → ℕ → ℕ → Type 0
Others k a b c d = (k ≡ a → ⊥) × (k ≡ b → ⊥) × (k ≡ c → ⊥) × (k ≡ d → ⊥)

pub none_of : (kind k a b c d : ℕ) → kind ≡ k → Others kind a b c d
    → (eqb k a ≡ false) × (eqb k b ≡ false) × (eqb k c ≡ false) × (eqb k d ≡ false)
none_of kind k a b c d e h = rw (← e) (ne_eqb kind a h.0, ne_eqb kind b h.1, ne_eqb kind c h.2, ne_eqb kind d h.3)

module _ (n : ℕ) (ws places : List ℕ) (i kind : ℕ) {o b l : List ℕ} {p : Pen} (e : kind ≡ instr_kind ws i) where
  pub memory_none : Others kind alloc store load addr_of → Lowers (memory_ops n ws places i) o b l p o b l p
  unfolding memory_ops
  memory_none h = let f = none_of kind (instr_kind ws i) alloc store load addr_of e h in rw (f.0, f.1, f.2, f.3) (lowers_none o b l p)

  pub compute_memory : {o' b' l' : List ℕ} {p' : Pen} → Others kind bin bin_imm cast assert → Lowers (memory_ops n ws places i) o b l p o' b' l' p'
      → Lowers (compute_ops n ws places i) o b l p o' b' l' p'
  unfolding compute_ops
  compute_memory h s = let f = none_of kind (instr_kind ws i) bin bin_imm cast assert e h in rw (f.0, f.1, f.2, f.3) s

-- what the form of a kind allows x and z
module _ (ws : List ℕ) (i k : ℕ) {kind : ℕ} (ok : instr_ok ws i ≡ true) (e : kind ≡ instr_kind ws i) (h : kind ≡ k) where
  pub x_most : {x : ℕ} → x ≡ instr_x ws i → x ≤ instr_form k 2
  x_most f = rw (f, ← h, e) (instr_says ws i ok).x

  pub z_most : {z : ℕ} → z ≡ instr_z ws i → z ≤ instr_form k 4
  z_most f = rw (f, ← h, e) (instr_says ws i ok).z
