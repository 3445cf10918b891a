-- What the checks say of a call's arguments: they are at most n - 2, and each is in use at the row before.
use mathlib.Core.Path.{◌≡◌}
use Prim.Native.Nat.{ℕ, zero, suc, ◌+◌, ◌-◌, ◌≤◌, ◌<◌}
use mathlib.Core.List.{List, [], ◌∷◌}
use mathlib.Core.Bool.{true}
use native.Mathlib.Nat.{not-suc-le-zero, le_of_suc-le-suc}
use native.Mathlib.Omega.{arith}
use lib.ListN.{length, get_or}
use Rattle.machine.specs.Calls.{Kind}
use Rattle.input.specs.Layout.{instructions}
use Rattle.input.specs.Records.{first_instr, operands_at, operand_count, operands_of}
use Rattle.input.proofs.Chain.{both-parts}
use Rattle.rows.specs.Rows.{Ref, ref, refs, instr, defined_by, defs_of, InUse}
use Rattle.shape.specs.Counts.{counts_ok}
use Rattle.shape.specs.Shape.{shape_ok}
use Rattle.fit.specs.Intervals.{fit_use, fit_uses, fit_defs, fit_row, intervals_ok}
use Rattle.judge.proofs.Shapes.{shape_given, rows-placed}
use Rattle.ready.specs.Ready.{InstrOf}
use Rattle.ready.proofs.Passes.{block_passes}
use Rattle.ready.proofs.Counted.{InstrFew, counted}
use Rattle.edges_proof.proofs.Uses.{list_long, use_fits}
use Rattle.calls_kept.specs.CallsKept.{Calls, calls_function, calls_builtin}

-- of uses that fit, each does
pub uses_fit : (ws : List ℕ) (ds : List Ref) (r : ℕ) (vs : List ℕ) → fit_uses ws ds (refs r vs) ≡ true → (k : ℕ) → k < length vs → fit_use ws ds (ref r (get_or vs k 0)) ≡ true
unfolding fit_uses refs
uses_fit ws ds r [] h k l = absurd (not-suc-le-zero l)
uses_fit ws ds r (v ∷ vs) h zero l = (both-parts (fit_use ws ds (ref r v)) (fit_uses ws ds (refs r vs)) h).0
uses_fit ws ds r (v ∷ vs) h (suc k) l =
    uses_fit ws ds r vs (both-parts (fit_use ws ds (ref r v)) (fit_uses ws ds (refs r vs)) h).1 k (le_of_suc-le-suc l)

instr_fits : (ws : List ℕ) (ds : List Ref) (r i : ℕ) → fit_row ws ds r (instr i) ≡ true → fit_uses ws ds (refs r (operands_of ws i)) ≡ true
unfolding fit_row
instr_fits ws ds r i h = (both-parts (fit_uses ws ds (refs r (operands_of ws i))) (fit_defs ws (refs r (defined_by ws i))) h).0

kind_few : (n : ℕ) (ws : List ℕ) (i : ℕ) (kind : Kind) → Calls ws i kind → InstrFew n ws i → operand_count ws i ≤ n - 2
kind_few n ws i kind (calls_function e) f = f.arguments e
kind_few n ws i kind (calls_builtin e) f = f.sys_arguments e

module _ (ws : List ℕ) (b i : ℕ) (o : InstrOf ws b i) where
  pub operand_in_use : intervals_ok ws ≡ true → (k : ℕ) → k < length (operands_of ws i) → (r : ℕ) × InUse ws (get_or (operands_of ws i) k 0) r
  operand_in_use fit k l =
      let p = block_passes (fit_row ws (defs_of ws)) ws fit b o.block in
      let r : ℕ = p.row + 1 + (i - first_instr ws b) in
      (r - 1, use_fits ws r _ (uses_fit ws (defs_of ws) r (operands_of ws i) (instr_fits ws (defs_of ws) r i (p.of_instr i o)) k l))

  instr_there : shape_ok ws ≡ true → i < instructions ws
  instr_there shape = omega (arith, o.until, rows-placed ws (shape_given ws shape).rows b o.block.there o.block.is)

  pub operands_few : (n : ℕ) → counts_ok n ws ≡ true → shape_ok ws ≡ true → (kind : Kind) → Calls ws i kind → length (operands_of ws i) ≤ n - 2
  operands_few n counts shape kind c =
      omega (arith, list_long ws (operands_at ws i) (operand_count ws i), kind_few n ws i kind c ((counted n ws counts).of_instr i (instr_there shape)))
