-- Calls and tails from what their steps emit.
use mathlib.Core.Path.{◌≡◌, refl, ap}
use mathlib.Core.Bool.{Bool, true, false}
use mathlib.Core.List.{List, map, reverse}
use Prim.Native.Nat.{ℕ, zero, suc, ◌+◌, ◌%◌, ◌^◌, max}
use lib.Dec.{leb, eqb}
use lib.ListN.{length}
use Rattle.base.specs.declared.Pen.{Pen}
use Rattle.base.specs.Emission.{emit, emit_all}
use Rattle.base.specs.Lent.{Lowers}
use Rattle.base.proofs.Pens.{then, renamed}
use Rattle.place.specs.Registers.{first_kept}
use Rattle.op.specs.Words.{word}
use Rattle.op.specs.Ops as op
use Rattle.machine.specs.Stack.{pushes_of, pops_of}
use Rattle.program.specs.Functions.{function_kind, function_number, bytecode}
use Rattle.input.specs.Layout.{list_at}
use Rattle.input.specs.Forms.{both}
use Rattle.lower.specs.Operands.{dest_reg, stored}
use Rattle.calls.specs.Calls.{masked_from, shuffle, call_with, called_as, lower_call, lower_sys, tail_words, lower_tail}

-- a list of the pool has as many numbers as it says
list_length : (ws : List ℕ) (i n : ℕ) → length (list_at ws i n) ≡ n
unfolding list_at
list_length ws i zero = refl
list_length ws i (suc n) = ap suc (list_length ws (i + 1) n)

-- what stands before the op that calls, that op, and what stands after it
pub call-whole : (n : ℕ) (places regs arguments : List ℕ) (called dst : ℕ) {pushes o b l o₁ b₁ o₂ b₂ o₃ b₃ : List ℕ} {p p₁ p₂ p₃ : Pen} → regs ≡ pushes
    → Lowers (λ q. shuffle n places (length regs) arguments (emit_all (map word (pushes_of regs)) q)) o b l p o₁ b₁ l p₁
    → Lowers (emit called) o₁ b₁ l p₁ o₂ b₂ l p₂
    → Lowers (λ q. stored n dst (emit_all (map word (pops_of (reverse regs))) (emit (word (op.mov (dest_reg n dst) 0)) q))) o₂ b₂ l p₂ o₃ b₃ l p₃
    → Lowers (call_with n places pushes arguments called dst) o b l p o₃ b₃ l p₃
unfolding call_with
call-whole n places regs arguments called dst e x y z = renamed (then (then x y) z) (λ q. rw (← e))

-- a call and a builtin, by what their limit and op are
module _ (n : ℕ) (ws places : List ℕ) (noted at count dst : ℕ) {limit called : ℕ} {o b l o' b' : List ℕ} {p p' : Pen} where
  pub call_function : (f : ℕ) → called ≡ called_as f → limit ≡ max first_kept count
      → Lowers (call_with n places (masked_from noted 0 limit) (list_at ws at count) called dst) o b l p o' b' l p'
      → Lowers (lower_call n places noted (list_at ws at count) f dst) o b l p o' b' l p'
  unfolding lower_call
  call_function f e h s = renamed s (λ q. rw (list_length ws at count, e, h))

  pub call_builtin : (number : ℕ) → called ≡ word (op.sys number count) → limit ≡ max 1 count
      → Lowers (call_with n places (masked_from noted 0 limit) (list_at ws at count) called dst) o b l p o' b' l p'
      → Lowers (lower_sys n places noted (list_at ws at count) number dst) o b l p o' b' l p'
  unfolding lower_sys
  call_builtin number e h s = renamed s (λ q. rw (list_length ws at count, e, h))

-- a tail after its shuffle
module _ (n : ℕ) (ws places : List ℕ) (at count f : ℕ) {o b l o₁ b₁ o₂ b₂ : List ℕ} {p p₁ p₂ : Pen}
    (s : Lowers (shuffle n places 0 (list_at ws at count)) o b l p o₁ b₁ l p₁) {t : Bool}
    (et : t ≡ both (leb count first_kept) (eqb (function_kind f) bytecode)) where
  pub tail_taken : {w number : ℕ} → t ≡ true → number ≡ function_number f % 2 ^ 32 → w ≡ word (op.tail number) → Lowers (emit w) o₁ b₁ l p₁ o₂ b₂ l p₂
      → Lowers (lower_tail n places (list_at ws at count) f) o b l p o₂ b₂ l p₂
  unfolding lower_tail tail_words emit_all
  tail_taken h en e x = renamed (then s x) (λ q. rw (list_length ws at count, ← et, h, e, en))

  pub tail-called : {w r : ℕ} {o₃ b₃ : List ℕ} {p₃ : Pen} → t ≡ false → w ≡ called_as f → r ≡ word op.ret → Lowers (emit w) o₁ b₁ l p₁ o₂ b₂ l p₂
      → Lowers (emit r) o₂ b₂ l p₂ o₃ b₃ l p₃ → Lowers (lower_tail n places (list_at ws at count) f) o b l p o₃ b₃ l p₃
  unfolding lower_tail tail_words emit_all
  tail-called h e g x y = renamed (then (then s x) y) (λ q. rw (list_length ws at count, ← et, h, e, g))
