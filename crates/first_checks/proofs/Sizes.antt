-- Used lengths, rooms and refusals 1 to 7, over plain numbers.
use mathlib.Core.Path.{◌≡◌, refl, sym, ◌∙◌}
use mathlib.Core.Logic.{⊎_elim}
use mathlib.Core.Bool.{Bool, true, false, ◌&&◌}
use mathlib.Core.List.{List}
use Prim.Native.Nat.{ℕ, ◌≤◌, ◌<◌, min}
use native.Mathlib.Omega.{arith}
use borrow.Author.Tests.{lt-ltb, le-ltb}
use lib.Dec.{ltb}
use Rattle.base.specs.Choice.{pick}
use Rattle.base.proofs.Numbers.{lt?, pick_true}
use Rattle.base.proofs.Numbers as test
use Rattle.input.specs.Forms.{both, words_ok}
use Rattle.input.proofs.Chain.{all_seven}
use Rattle.shape.specs.Counts.{counts_ok}
use Rattle.shape.specs.Shape.{shape_ok}
use Rattle.fit.specs.Intervals.{once_ok, intervals_ok}
use Rattle.fit.specs.Callees.{callees_ok}
use Rattle.fit.specs.Keys.{keyed_ok}
use Rattle.judge.specs.Judged.{unfit}
use Rattle.judge.proofs.Lowest.{bad_word}
use Rattle.lists.specs.declared.Used.{Used}
use Rattle.used.specs.Used.{within, slots_within}
use Rattle.first_checks.specs.declared.Lengths.{Lengths}
use Rattle.first_checks.specs.Buffers.{Buffers}
use Rattle.first_checks.specs.Checks.{used_ok, Sized}

-- an entry in the function table: below both bounds is below the lower
pub under_both : (x : Bool) (k a b : ℕ) → (x && ltb k a && ltb k b) ≡ both x (ltb k (min a b))
under_both false k a b = refl
under_both true k a b =
    ⊎_elim
    (λ (p : k < a).
    ⊎_elim
    (λ (q : k < b). rw (lt-ltb k a p, lt-ltb k b q, lt-ltb k (min a b) (omega arith)))
    (λ (q : b ≤ k). rw (lt-ltb k a p, le-ltb k b q, le-ltb k (min a b) (omega arith)))
    (lt? k b))
    (λ (p : a ≤ k). rw (le-ltb k a p, le-ltb k (min a b) (omega arith)))
    (lt? k a)

-- eight tests joined by `&`
all_eight : (p q r s t u v w : Bool)
    → (((((((p && q) && r) && s) && t) && u) && v) && w) ≡ both p (both q (both r (both s (both t (both u (both v w))))))
all_eight true q r s t u v w = all_seven q r s t u v w
all_eight false q r s t u v w = refl

-- the used lengths, each by its own test
pub used_is : (n : Lengths) (u : Used) (b : Buffers) → Sized n b → (p q r s t v w x : Bool)
    → p ≡ within 1 u.ops n.ops
    → q ≡ within 1 u.ops n.spans
    → r ≡ within 2 u.globals n.globals
    → s ≡ within 1 u.builtins n.builtins
    → t ≡ within 3 u.switches n.switches
    → v ≡ slots_within 1 u.targets n.targets
    → w ≡ within 5 u.lookups n.lookups
    → x ≡ slots_within 2 u.values n.values
    → (((((((p && q) && r) && s) && t) && v) && w) && x) ≡ used_ok b u
unfolding used_ok
used_is n u b z p q r s t v w x a c d e f g h i =
    all_eight p q r s t v w x
    ∙ rw (a, c, d, e, f, g, h, i, z.ops, z.spans, z.globals, z.builtins, z.switches, z.targets, z.lookups, z.values)

-- ---- refusals 1 to 7
-- a refusal above 1, or what comes before it
above : (t : Bool) (x k : ℕ) → (x ≡ 1 → ⊥) → 1 < k → pick t x k ≡ 1 → ⊥
above true x k h l e = h e
above false x k h l e = omega arith

-- words that pass get another number than 1
not_one : (n : ℕ) (ws functions : List ℕ) → words_ok ws ≡ true → unfit n ws functions ≡ 1 → ⊥
unfolding unfit
not_one n ws functions h e =
    above (counts_ok n ws) _ 2
    (above (shape_ok ws) _ 3
    (above (once_ok ws) _ 4
    (above (intervals_ok ws) _ 5
    (above (callees_ok ws functions) _ 6 (above (keyed_ok ws) 0 7 (λ q. omega arith) (omega arith)) (omega arith)) (omega arith)) (omega arith)) (omega arith))
    (omega arith)
    (sym (pick_true (words_ok ws) _ 1 h) ∙ e)

module _ (n : ℕ) (ws functions : List ℕ) (v : ℕ) (is : v ≡ unfit n ws functions) where
  pub early-word : (x : ℕ) → v ≡ 1 → 1 ≡ pick (words_ok ws) x 1
  early-word x e =
      ⊎_elim
      (λ (h : words_ok ws ≡ true). absurd (not_one n ws functions h (sym is ∙ e)))
      (λ (h : words_ok ws ≡ false). rw h)
      (test.both (words_ok ws))

  early_good : (v ≡ 1 → ⊥) → words_ok ws ≡ true
  early_good h =
      ⊎_elim (λ (e : words_ok ws ≡ true). e) (λ (e : words_ok ws ≡ false). absurd (h (is ∙ sym (bad_word ws functions n e)))) (test.both (words_ok ws))

  pub early_many : (v ≡ 1 → ⊥) → (t : Bool) → t ≡ false → 2 ≡ pick (words_ok ws) (pick t (unfit n ws functions) 2) 1
  early_many h t e = rw (early_good h, e)

  pub early-rest : (v ≡ 1 → ⊥) → (t : Bool) → t ≡ true → v ≡ pick (words_ok ws) (pick t (unfit n ws functions) 2) 1
  early-rest h t e = rw (early_good h, e) is
