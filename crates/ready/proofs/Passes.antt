-- Where a check of every row passes, it passes each row of a live block.
use Prim.Native.Nat.{ℕ, zero, suc, ◌+◌, ◌-◌, ◌<◌}
use mathlib.Core.Bool.{Bool, true}
use mathlib.Core.List.{List}
use mathlib.Core.Path.{◌≡◌, sym, ◌∙◌}
use native.Mathlib.Omega.{arith}
use lib.Dec.{eqb}
use lib.ListN.{length}
use borrow.Author.Tests.{eq-eqb}
use Rattle.base.specs.Choice.{pick}
use Rattle.input.specs.Layout.{blocks}
use Rattle.input.specs.Records.{first_instr, instr_count}
use Rattle.input.proofs.Chain.{both-parts}
use Rattle.rows.specs.Rows.{Row, params, instr, term, instr_rows, rows_from, rows_of, every}
use Rattle.rows.proofs.Every.{every-live, every-block}
use Rattle.ready.specs.Ready.{Live, InstrOf}

-- what is asked of one kind alone
pub asked : (kind k : ℕ) (x : Bool) → pick (eqb kind k) x true ≡ true → kind ≡ k → x ≡ true
asked kind k x e h = rw (eq-eqb kind k h) at e

pub record Passes (ok : ℕ → Row → Bool) (ws : List ℕ) (b : ℕ) : Type 0 where
  pub row : ℕ
  pub of_params : ok row (params b) ≡ true
  pub of_instr : (i : ℕ) → InstrOf ws b i → ok (row + 1 + (i - first_instr ws b)) (instr i) ≡ true
  pub of_term : ok (row + 1 + instr_count ws b) (term b) ≡ true

module _ (ok : ℕ → Row → Bool) where
  every_instr : (r i n : ℕ) → every ok r (instr_rows i n) ≡ true → (j : ℕ) → j < n → ok (r + j) (instr (i + j)) ≡ true
  unfolding every instr_rows
  every_instr r i zero e j h = absurd (omega arith)
  every_instr r i (suc n) e zero h =
      let a : r + 0 ≡ r = omega arith in
      let b : i + 0 ≡ i = omega arith in
      rw (a, b) (both-parts (ok r (instr i)) (every ok (r + 1) (instr_rows (i + 1) n)) e).0
  every_instr r i (suc n) e (suc j) h =
      let a : r + suc j ≡ r + 1 + j = omega arith in
      let b : i + suc j ≡ i + 1 + j = omega arith in
      rw (a, b) (every_instr (r + 1) (i + 1) n (both-parts (ok r (instr i)) (every ok (r + 1) (instr_rows (i + 1) n)) e).1 j (omega arith))

  pub block_passes : (ws : List ℕ) → every ok 0 (rows_of ws) ≡ true → (b : ℕ) → Live ws b → Passes ok ws b
  block_passes ws e b l =
      let r : ℕ = 0 + length (rows_from ws 0 b) in
      let z : 0 + b ≡ b = omega arith in
      let i : List Row = instr_rows (first_instr ws b) (instr_count ws b) in
      let k = rw z at (every-block ok ws 0 0 (blocks ws) e b l.there) in
      let p = both-parts (ok r (params b)) _ (sym (every-live ok ws r b l.is) ∙ k) in
      let q = both-parts (every ok (r + 1) i) (ok (r + 1 + instr_count ws b) (term b)) p.1 in
      record {
        row = r;
        of_params = p.0;
        of_instr = λ j h.
            let s : first_instr ws b + (j - first_instr ws b) ≡ j = omega (arith, h.from) in
            rw s at (every_instr (r + 1) (first_instr ws b) (instr_count ws b) q.0 (j - first_instr ws b) (omega (arith, h.from, h.until)));
        of_term = q.1;
      }
