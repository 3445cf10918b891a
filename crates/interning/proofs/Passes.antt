-- A pass over the rows that gives a growing list what each row has, whatever the number of the row.
use mathlib.Core.Path.{◌≡◌, sym, ap, ◌∙◌}
use mathlib.Core.Bool.{true, false}
use Prim.Native.Nat.{ℕ, ◌+◌, ◌-◌, ◌≤◌, ◌<◌}
use mathlib.Core.List.{List, [], ◌++◌}
use native.Mathlib.Omega.{arith}
use lib.ListN.{length}
use Rattle.grow.specs.declared.End.{End}
use Rattle.grow.specs.Growing.{Grows}
use Rattle.grow.proofs.Growing.{Left, left_as, left-turn, left_end, none, then, renamed}
use Rattle.input.specs.Records.{is_live, first_instr, instr_count}
use Rattle.rows.specs.Rows.{Row, params, instr, term, instr_rows, block_rows, rows_from, over_rows}
use Rattle.rows.proofs.Every.{over_instrs, over_instrs_start, over_instrs_end, over-blocks, over-blocks-start, over-blocks-end, over-dead, over-live}

-- what is done for each of a list of things in turn
pub record InTurn (f : List ℕ → List ℕ → List ℕ) : Type 0 where
  pub nil : (l : List ℕ) → f [] l ≡ l
  pub app : (xs ys l : List ℕ) → f (xs ++ ys) l ≡ f ys (f xs l)

-- what is left of n instructions, the first of them and on, from the i-th on
abbrev pub InstrsLeft : (List ℕ → List ℕ → List ℕ) → (ℕ → Row → List ℕ) → ℕ → ℕ → List ℕ → End → ℕ → List ℕ → End → Type 0
InstrsLeft f g first n b e i b' e' =
    (r : ℕ) → Left (f (over_rows g (r + (i - first)) (instr_rows (first + (i - first)) (n - (i - first))))) (f (over_rows g r (instr_rows first n))) b e b' e'

-- what is left of n blocks from the k-th on
abbrev pub BlocksLeft : (List ℕ → List ℕ → List ℕ) → (ℕ → Row → List ℕ) → List ℕ → ℕ → List ℕ → End → ℕ → List ℕ → End → Type 0
BlocksLeft f g ws n b e k b' e' =
    (r : ℕ) × Left (f (over_rows g r (rows_from ws k (n - k)))) (f (over_rows g 0 (rows_from ws 0 n))) b e b' e'

module _ {f : List ℕ → List ℕ → List ℕ} (law : InTurn f) (g : ℕ → Row → List ℕ) where
  pub instrs_start : (first n : ℕ) (b : List ℕ) (e : End) → InstrsLeft f g first n b e first b e
  instrs_start first n b e =
      let z : first - first ≡ 0 = omega arith in
      rw z (λ r. left_as (λ l. ap (λ (xs : List ℕ). f xs l) (over_instrs_start g r first n)))

  pub instrs_turn : {b b' b'' : List ℕ} {e e' e'' : End} (first n i : ℕ) → first ≤ i → i < first + n → InstrsLeft f g first n b e i b' e'
      → ((r : ℕ) → Grows (f (g r (instr i))) b' e' b'' e'') → InstrsLeft f g first n b e (i + 1) b'' e''
  instrs_turn first n i h k s t =
      let j = i - first in
      let here : first + j ≡ i = omega arith in
      let next : i + 1 - first ≡ j + 1 = omega arith in
      rw next
      (λ r. left-turn (f (over_rows g (r + (j + 1)) (instr_rows (first + (j + 1)) (n - (j + 1))))) (s r) (rw here (t (r + j)))
      (λ l. ap (λ (xs : List ℕ). f xs l) (over_instrs g r first n j (omega arith))
      ∙ law.app (g (r + j) (instr (first + j))) (over_rows g (r + (j + 1)) (instr_rows (first + (j + 1)) (n - (j + 1)))) l))

  pub instrs_end : {b b' : List ℕ} {e e' : End} (first n i : ℕ) → first + n ≤ i → InstrsLeft f g first n b e i b' e'
      → (r : ℕ) → Grows (f (over_rows g r (instr_rows first n))) b e b' e'
  instrs_end first n i h s = λ r. left_end (s r) (λ l. ap (λ (xs : List ℕ). f xs l) (over_instrs_end g r first n (i - first) (omega arith)) ∙ law.nil l)

  module _ (ws : List ℕ) where
    pub blocks_start : (n : ℕ) (b : List ℕ) (e : End) → BlocksLeft f g ws n b e 0 b e
    blocks_start n b e = (0, left_as (λ l. ap (λ (xs : List ℕ). f xs l) (over-blocks-start g ws n)))

    pub blocks-turn : {b b' b'' : List ℕ} {e e' e'' : End} (n k : ℕ) → k < n → BlocksLeft f g ws n b e k b' e'
        → ((r : ℕ) → Grows (f (over_rows g r (block_rows ws k))) b' e' b'' e'') → BlocksLeft f g ws n b e (k + 1) b'' e''
    blocks-turn n k h s t =
        let r = s.0 in (
          r + length (block_rows ws k),
          left-turn (f (over_rows g (r + length (block_rows ws k)) (rows_from ws (k + 1) (n - (k + 1))))) s.1 (t r)
              (λ l. ap (λ (xs : List ℕ). f xs l) (over-blocks g ws n r k h)
              ∙ law.app (over_rows g r (block_rows ws k)) (over_rows g (r + length (block_rows ws k)) (rows_from ws (k + 1) (n - (k + 1)))) l),
        )

    pub blocks_end : {b b' : List ℕ} {e e' : End} (n k : ℕ) → n ≤ k → BlocksLeft f g ws n b e k b' e'
        → Grows (f (over_rows g 0 (rows_from ws 0 n))) b e b' e'
    blocks_end n k h s = left_end s.1 (λ l. ap (λ (xs : List ℕ). f xs l) (over-blocks-end g ws n s.0 k h) ∙ law.nil l)

    -- a tombstone has no rows
    pub block_dead : (k : ℕ) (b : List ℕ) (e : End) → is_live ws k ≡ false → (r : ℕ) → Grows (f (over_rows g r (block_rows ws k))) b e b e
    block_dead k b e h = λ r. renamed (none b e) (λ l. sym (ap (λ (xs : List ℕ). f xs l) (over-dead g ws r k h) ∙ law.nil l))

    -- a live block of whose parameters nothing is done: its instructions, its terminator
    pub block-live : {b b' b'' : List ℕ} {e e' e'' : End} (k : ℕ) → is_live ws k ≡ true → ((r : ℕ) → g r (params k) ≡ [])
        → ((r : ℕ) → Grows (f (over_rows g r (instr_rows (first_instr ws k) (instr_count ws k)))) b e b' e')
        → ((r : ℕ) → Grows (f (g r (term k))) b' e' b'' e'') → (r : ℕ) → Grows (f (over_rows g r (block_rows ws k))) b e b'' e''
    block-live k h p s t =
        λ r. let xs = over_rows g (r + 1) (instr_rows (first_instr ws k) (instr_count ws k)) in
        let y = g (r + 1 + instr_count ws k) (term k) in
        renamed (then (s (r + 1)) (t (r + 1 + instr_count ws k)))
        (λ l. sym (ap (λ (zs : List ℕ). f zs l) (over-live g ws r k h ∙ ap (λ (zs : List ℕ). zs ++ (xs ++ y)) (p r)) ∙ law.app xs y l))
