-- What bringing an operand and storing a destination do, by the place, and how an instruction is made of them.
use mathlib.Core.Path.{◌≡◌, ap}
use Prim.Native.Nat.{ℕ, ◌-◌, ◌≤◌, ◌<◌}
use mathlib.Core.List.{List}
use borrow.Author.Tests.{lt-ltb, le-ltb}
use Rattle.base.specs.declared.Pen.{Pen}
use Rattle.base.specs.Emission.{Out, emit}
use Rattle.base.specs.Lent.{Lowers}
use Rattle.base.proofs.Pens.{lowers_none, then, renamed}
use Rattle.place.specs.Registers.{tmp_of}
use Rattle.place.specs.Places.{slots_from}
use Rattle.op.specs.Words.{word}
use Rattle.op.specs.Ops.{load_slot, store_slot}
use Rattle.lower.specs.Operands.{spare, operand_reg, fetched, operand, dest_reg, stored, into}

-- A rule that looks at the op before it may be given the pen's.
pub by_last : (rule : ℕ → Out → Out) {o b l o' b' l' : List ℕ} {p p' : Pen} → Lowers (rule p.last) o b l p o' b' l' p'
    → Lowers (λ q. rule q.last q) o b l p o' b' l' p'
by_last rule {p} s =
    record {
      room_kept = s.room_kept;
      go = λ ops₀ spans₀ q k. rw (ap (λ (t : ℕ). rule t q) k.last_is) at (s.go ops₀ spans₀ q k);
    }

-- a register is neither loaded nor stored
module _ (n place : ℕ) {o b l : List ℕ} {p : Pen} (h : place < slots_from) where
  pub fetched-register : Lowers (fetched n place) o b l p o b l p
  unfolding fetched
  fetched-register = renamed (lowers_none o b l p) (λ q. rw (lt-ltb place slots_from h))

  pub stored-register : Lowers (stored n place) o b l p o b l p
  unfolding stored
  stored-register = renamed (lowers_none o b l p) (λ q. rw (lt-ltb place slots_from h))

-- a slot is
module _ (n place : ℕ) {w : ℕ} {o b l o' b' l' : List ℕ} {p p' : Pen} (h : slots_from ≤ place) (s : Lowers (emit w) o b l p o' b' l' p') where
  pub fetched-slot : {r : ℕ} → r ≡ spare n p.last → w ≡ word (load_slot r (place - slots_from)) → Lowers (fetched n place) o b l p o' b' l' p'
  unfolding fetched
  fetched-slot e f =
      renamed (by_last (λ t. emit (word (load_slot (spare n t) (place - slots_from)))) (renamed s (λ q. rw (f, e))))
      (λ q. rw (le-ltb place slots_from h))

  pub stored-slot : {r : ℕ} → r ≡ tmp_of n → w ≡ word (store_slot (place - slots_from) r) → Lowers (stored n place) o b l p o' b' l' p'
  unfolding stored
  stored-slot e f = renamed s (λ q. rw (le-ltb place slots_from h, f, e))

-- What is done with an operand, given the register that the pen's last op decides.
pub with-operand : (n src : ℕ) (rest : ℕ → Out → Out) {s : ℕ} {o b l o' b' l' : List ℕ} {p p' : Pen} → s ≡ operand_reg n src p.last
    → Lowers (λ q. rest s (fetched n src q)) o b l p o' b' l' p' → Lowers (operand n src rest) o b l p o' b' l' p'
with-operand n src rest e x =
    by_last (λ t q. rest (operand_reg n src t) (fetched n src q)) (renamed x (λ q. rw e))

-- the same of two, one after the other
pub with_operands : (n src src' : ℕ) (rest : ℕ → ℕ → Out → Out) {s s' : ℕ} {o b l o₁ b₁ l₁ o' b' l' : List ℕ} {p p₁ p' : Pen}
    → s ≡ operand_reg n src p.last → s' ≡ operand_reg n src' p₁.last → Lowers (fetched n src) o b l p o₁ b₁ l₁ p₁
    → Lowers (λ q. rest s s' (fetched n src' q)) o₁ b₁ l₁ p₁ o' b' l' p'
    → Lowers (operand n src (λ t. operand n src' (rest t))) o b l p o' b' l' p'
with_operands n src src' rest {s} e f x y =
    with-operand n src (λ t. operand n src' (rest t)) e (then x (with-operand n src' (rest s) f y))

-- an op of two operands that computes nothing: `make` is its word by the registers
pub of_two : (n src src' : ℕ) (make : ℕ → ℕ → ℕ) {w s s' : ℕ} {o b l o₁ b₁ l₁ o₂ b₂ l₂ o' b' l' : List ℕ} {p p₁ p₂ p' : Pen}
    → s ≡ operand_reg n src p.last → s' ≡ operand_reg n src' p₁.last → w ≡ make s s' → Lowers (fetched n src) o b l p o₁ b₁ l₁ p₁
    → Lowers (fetched n src') o₁ b₁ l₁ p₁ o₂ b₂ l₂ p₂ → Lowers (emit w) o₂ b₂ l₂ p₂ o' b' l' p'
    → Lowers (operand n src (λ t. operand n src' (λ t'. emit (make t t')))) o b l p o' b' l' p'
of_two n src src' make e f g x y z = with_operands n src src' (λ t t'. emit (make t t')) e f x (renamed (then y z) (λ q. rw g))

-- an op that computes a destination from no operand, from one and from two
module _ (n dst : ℕ) {w d : ℕ} {o b l o' b' l' : List ℕ} {p p' : Pen} where
  pub from_none : (make : ℕ → ℕ) → d ≡ dest_reg n dst → w ≡ make d → Lowers (λ q. stored n dst (emit w q)) o b l p o' b' l' p'
      → Lowers (into n dst (λ r. emit (make r))) o b l p o' b' l' p'
  from_none make e f x = renamed x (λ q. rw (f, e))

  pub from_one : (src : ℕ) (make : ℕ → ℕ → ℕ) {s : ℕ} → d ≡ dest_reg n dst → s ≡ operand_reg n src p.last → w ≡ make d s
      → Lowers (λ q. stored n dst (emit w (fetched n src q))) o b l p o' b' l' p'
      → Lowers (into n dst (λ r. operand n src (λ t. emit (make r t)))) o b l p o' b' l' p'
  from_one src make e f g x =
      with-operand n src (λ t q. stored n dst (emit (make (dest_reg n dst) t) q)) f (renamed x (λ q. rw (g, e)))

  pub from_two : (src src' : ℕ) (make : ℕ → ℕ → ℕ → ℕ) {s s' : ℕ} {o₁ b₁ l₁ : List ℕ} {p₁ : Pen} → d ≡ dest_reg n dst
      → s ≡ operand_reg n src p.last → s' ≡ operand_reg n src' p₁.last → w ≡ make d s s' → Lowers (fetched n src) o b l p o₁ b₁ l₁ p₁
      → Lowers (λ q. stored n dst (emit w (fetched n src' q))) o₁ b₁ l₁ p₁ o' b' l' p'
      → Lowers (into n dst (λ r. operand n src (λ t. operand n src' (λ t'. emit (make r t t'))))) o b l p o' b' l' p'
  from_two src src' make e f f' g x y =
      with_operands n src src' (λ t t' q. stored n dst (emit (make (dest_reg n dst) t t') q)) f f' x (renamed y (λ q. rw (g, e)))
