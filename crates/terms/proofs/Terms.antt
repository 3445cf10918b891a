-- Terminators by what the code found: the branches, Switch, and the chain of the kinds.
use mathlib.Core.Path.{◌≡◌, sym, ◌∙◌}
use Prim.Native.Nat.{ℕ, ◌+◌}
use mathlib.Core.List.{List}
use borrow.Author.Tests.{ne_eqb}
use lib.ListN.{get_or}
use Rattle.base.specs.declared.Pen.{Pen}
use Rattle.base.specs.Emission.{emit, at_span}
use Rattle.base.specs.Lent.{Lowers}
use Rattle.base.proofs.Pens.{lowers_none, then, renamed}
use Rattle.op.specs.declared.Op.{Op}
use Rattle.op.specs.Words.{word}
use Rattle.op.specs.Ops as op
use Rattle.input.specs.Layout.{blocks, list_at}
use Rattle.input.specs.Records as in_words
use Rattle.input.specs.Records.{term_kind, term_span, term_operands_at, term_operand_count, first_edge, edge_count, term_x, term_y, edge_target, param_count}
use Rattle.lower.specs.Operands.{operand_reg, fetched}
use Rattle.lower.proofs.Operands.{with-operand, with_operands}
use Rattle.edges.specs.Edges.{edge, branch, switch_edges}
use Rattle.calls.specs.Calls.{lower_tail}
use Rattle.instrs.specs.Instrs.{Env}
use Rattle.terms.specs.Terms.{term_place, branch_by, return_ops, branch_ops, switch_ops, term_ops}

-- ---- the branches: the first operand is there, a jump without its target is made
module _ (n : ℕ) (ws places : List ℕ) (next b₀ : ℕ) {kind count e x r : ℕ} {jump : Op} {o b l o₁ b₁ l₁ o₂ b₂ l₂ : List ℕ} {p p₁ p₂ : Pen}
    (k : kind ≡ term_kind ws b₀) (c : count ≡ blocks ws) (f : e ≡ first_edge ws b₀) (g : x ≡ term_place ws places b₀ 0) (h : r ≡ operand_reg n x p.last)
    (s : Lowers (fetched n x) o b l p o₁ b₁ l₁ p₁) where
  pub branch_if : kind ≡ in_words.branch → jump ≡ op.jmp_f r 0 → Lowers (branch n ws places jump (count + b₀) next e) o₁ b₁ l₁ p₁ o₂ b₂ l₂ p₂
      → Lowers (branch_ops n ws places next b₀) o b l p o₂ b₂ l₂ p₂
  unfolding branch_ops
  branch_if a j t =
      rw (sym k ∙ a, ← g)
      (with-operand n x (λ r. branch_by n ws places next b₀ (op.jmp_f r 0)) h (renamed (then s t) (λ q. rw (j, c, f))))

  pub branch_imm : {y : ℕ} → kind ≡ in_words.branch_cmp_imm → y ≡ term_y ws b₀ → jump ≡ op.jmp_ne_i r y 0
      → Lowers (branch n ws places jump (count + b₀) next e) o₁ b₁ l₁ p₁ o₂ b₂ l₂ p₂ → Lowers (branch_ops n ws places next b₀) o b l p o₂ b₂ l₂ p₂
  unfolding branch_ops
  branch_imm a y j t =
      rw (sym k ∙ a, ← g)
      (with-operand n x (λ r. branch_by n ws places next b₀ (op.jmp_ne_i r (term_y ws b₀) 0)) h (renamed (then s t) (λ q. rw (j, c, f, y))))

  pub branch_cmp_lem : {y r' : ℕ} {o₃ b₃ l₃ : List ℕ} {p₃ : Pen} → (kind ≡ in_words.branch → ⊥) → (kind ≡ in_words.branch_cmp_imm → ⊥)
      → y ≡ term_place ws places b₀ 1 → r' ≡ operand_reg n y p₁.last → jump ≡ op.jmp_s_ne r r' 0 → Lowers (fetched n y) o₁ b₁ l₁ p₁ o₂ b₂ l₂ p₂
      → Lowers (branch n ws places jump (count + b₀) next e) o₂ b₂ l₂ p₂ o₃ b₃ l₃ p₃ → Lowers (branch_ops n ws places next b₀) o b l p o₃ b₃ l₃ p₃
  unfolding branch_ops
  branch_cmp_lem {y} a a' g' h' j u t =
      rw (
        ne_eqb (term_kind ws b₀) in_words.branch (λ (z : term_kind ws b₀ ≡ in_words.branch). a (k ∙ z)),
        ne_eqb (term_kind ws b₀) in_words.branch_cmp_imm (λ (z : term_kind ws b₀ ≡ in_words.branch_cmp_imm). a' (k ∙ z)),
        ← g,
        ← g',
      )
      (with_operands n x y (λ r r'. branch_by n ws places next b₀ (op.jmp_s_ne r r' 0)) h h' s (renamed (then u t) (λ q. rw (j, c, f))))

-- ---- Switch
pub switch_as : (n : ℕ) (ws places : List ℕ) (table label next b₀ : ℕ) {e cases x r w : ℕ} {o b l o₁ b₁ l₁ o₂ b₂ l₂ o₃ b₃ l₃ : List ℕ} {p p₁ p₂ p₃ : Pen}
    → e ≡ first_edge ws b₀ → cases ≡ term_y ws b₀ → x ≡ term_place ws places b₀ 0 → r ≡ operand_reg n x p.last → w ≡ word (op.switch r table)
    → Lowers (fetched n x) o b l p o₁ b₁ l₁ p₁ → Lowers (emit w) o₁ b₁ l₁ p₁ o₂ b₂ l₂ p₂
    → Lowers (switch_edges n ws places label next e cases) o₂ b₂ l₂ p₂ o₃ b₃ l₃ p₃ → Lowers (switch_ops n ws places table label next b₀) o b l p o₃ b₃ l₃ p₃
unfolding switch_ops
switch_as n ws places table label next b₀ {x} f c g h j s t u =
    rw (← g)
    (with-operand n x (λ r q. switch_edges n ws places label next (first_edge ws b₀) (term_y ws b₀) (emit (word (op.switch r table)) q)) h
    (renamed (then (then s t) u) (λ q. rw (j, f, c))))

-- ---- the chain of the kinds
module _ (n : ℕ) (env : Env) (table label next b₀ : ℕ) {kind : ℕ} (k : kind ≡ term_kind env.ws b₀) {o b l : List ℕ} {p : Pen} where
  pub term_none : kind ≡ in_words.no_term → Lowers (term_ops n env table label next b₀) o b l p o b l p
  unfolding term_ops
  term_none h = renamed (lowers_none o b l p) (λ q. rw (sym k ∙ h))

  -- at its span
  module _ {s : ℕ} {o' b' l' : List ℕ} {p₁ p' : Pen} (f : s ≡ term_span env.ws b₀) (x : Lowers (at_span s) o b l p o b l p₁) where
    pub term_return : kind ≡ in_words.return → Lowers (return_ops n env.ws env.places b₀) o b l p₁ o' b' l' p'
        → Lowers (term_ops n env table label next b₀) o b l p o' b' l' p'
    unfolding term_ops
    term_return h y = renamed (then x y) (λ q. rw (f, sym k ∙ h))

    pub term_jump : {e : ℕ} → kind ≡ in_words.jump → e ≡ first_edge env.ws b₀ → Lowers (edge n env.ws env.places next e) o b l p₁ o' b' l' p'
        → Lowers (term_ops n env table label next b₀) o b l p o' b' l' p'
    unfolding term_ops
    term_jump h g y = renamed (then x y) (λ q. rw (f, sym k ∙ h, g))

    pub term_tail : {at count t w : ℕ} → kind ≡ in_words.tail_call → at ≡ term_operands_at env.ws b₀ → count ≡ term_operand_count env.ws b₀
        → t ≡ term_x env.ws b₀ → w ≡ get_or env.functions t 0 → Lowers (lower_tail n env.places (list_at env.ws at count) w) o b l p₁ o' b' l' p'
        → Lowers (term_ops n env table label next b₀) o b l p o' b' l' p'
    unfolding term_ops
    term_tail h a c t w y = renamed (then x y) (λ q. rw (f, sym k ∙ h, w, a, c, t))

    pub term_switch : kind ≡ in_words.switch → Lowers (switch_ops n env.ws env.places table label next b₀) o b l p₁ o' b' l' p'
        → Lowers (term_ops n env table label next b₀) o b l p o' b' l' p'
    unfolding term_ops
    term_switch h y = renamed (then x y) (λ q. rw (f, sym k ∙ h))

    pub term_branch : (kind ≡ in_words.no_term → ⊥) → (kind ≡ in_words.return → ⊥) → (kind ≡ in_words.jump → ⊥) → (kind ≡ in_words.tail_call → ⊥)
        → (kind ≡ in_words.switch → ⊥) → Lowers (branch_ops n env.ws env.places next b₀) o b l p₁ o' b' l' p'
        → Lowers (term_ops n env table label next b₀) o b l p o' b' l' p'
    unfolding term_ops
    term_branch a c d g h y =
        renamed (then x y)
        (λ q.
        rw (
          f,
          ← k,
          ne_eqb kind in_words.no_term a,
          ne_eqb kind in_words.return c,
          ne_eqb kind in_words.jump d,
          ne_eqb kind in_words.tail_call g,
          ne_eqb kind in_words.switch h,
        ))
