-- What refusal 2 leaves to be known of each block and each instruction, on a machine with n registers.
use Prim.Native.Nat.{ℕ, ◌≤◌, ◌<◌}
use mathlib.Core.Bool.{true}
use mathlib.Core.List.{List}
use mathlib.Core.Path.{◌≡◌}
use lib.Dec.{leb, eqb}
use borrow.Author.Tests.{leb-true}
use Rattle.base.specs.Choice.{pick}
use Rattle.base.specs.Limits.{most_values, most_blocks, most_rows, most_arguments, most_parameters, most_cases}
use Rattle.input.specs.Layout.{values, blocks, instructions}
use Rattle.input.specs.Records.{param_count, term_kind, term_operand_count, term_y, tail_call, switch, instr_kind, operand_count, instr_y, call, sys, lookup}
use Rattle.input.specs.Forms.{each}
use Rattle.input.proofs.Chain.{both-parts}
use Rattle.input.proofs.Each.{each_first}
use Rattle.shape.specs.Counts.{row_count, cases_ok, block_counts, instr_counts, counts_ok}
use Rattle.ready.proofs.Passes.{asked}

-- cases or entries
pub record Some (cases : ℕ) : Type 0 where
  pub least : 1 ≤ cases
  pub most : cases ≤ most_cases

some : (cases : ℕ) → cases_ok cases ≡ true → Some cases
some cases e =
    let p = both-parts (leb 1 cases) (leb cases most_cases) e in
    record { least = leb-true 1 cases p.0; most = leb-true cases most_cases p.1 }

pub record BlockFew (n : ℕ) (ws : List ℕ) (b : ℕ) : Type 0 where
  pub parameters : param_count ws b ≤ pick (eqb b 0) (most_arguments n) most_parameters
  pub arguments : term_kind ws b ≡ tail_call → term_operand_count ws b ≤ most_arguments n
  pub cases : term_kind ws b ≡ switch → Some (term_y ws b)

block_few : (n : ℕ) (ws : List ℕ) (b : ℕ) → block_counts n ws b ≡ true → BlockFew n ws b
unfolding block_counts
block_few n ws b e =
    let most : ℕ = pick (eqb b 0) (most_arguments n) most_parameters in
    let p = both-parts (leb (param_count ws b) most) _ e in
    let q = both-parts (pick (eqb (term_kind ws b) tail_call) (leb (term_operand_count ws b) (most_arguments n)) true) _ p.1 in
    record {
      parameters = leb-true (param_count ws b) most p.0;
      arguments = λ h. leb-true _ _ (asked (term_kind ws b) tail_call _ q.0 h);
      cases = λ h. some (term_y ws b) (asked (term_kind ws b) switch _ q.1 h);
    }

pub record InstrFew (n : ℕ) (ws : List ℕ) (i : ℕ) : Type 0 where
  pub arguments : instr_kind ws i ≡ call → operand_count ws i ≤ most_arguments n
  pub sys_arguments : instr_kind ws i ≡ sys → operand_count ws i ≤ most_arguments n
  pub entries : instr_kind ws i ≡ lookup → Some (instr_y ws i)

instr_few : (n : ℕ) (ws : List ℕ) (i : ℕ) → instr_counts n ws i ≡ true → InstrFew n ws i
unfolding instr_counts
instr_few n ws i e =
    let p = both-parts (pick (eqb (instr_kind ws i) call) (leb (operand_count ws i) (most_arguments n)) true) _ e in
    let q = both-parts (pick (eqb (instr_kind ws i) sys) (leb (operand_count ws i) (most_arguments n)) true) _ p.1 in
    record {
      arguments = λ h. leb-true _ _ (asked (instr_kind ws i) call _ p.0 h);
      sys_arguments = λ h. leb-true _ _ (asked (instr_kind ws i) sys _ q.0 h);
      entries = λ h. some (instr_y ws i) (asked (instr_kind ws i) lookup _ q.1 h);
    }

pub record Counted (n : ℕ) (ws : List ℕ) : Type 0 where
  pub of_block : (b : ℕ) → b < blocks ws → BlockFew n ws b
  pub of_instr : (i : ℕ) → i < instructions ws → InstrFew n ws i

pub counted : (n : ℕ) (ws : List ℕ) → counts_ok n ws ≡ true → Counted n ws
unfolding counts_ok
counted n ws e =
    let p = both-parts (leb (values ws) most_values) _ e in
    let q = both-parts (leb (blocks ws) most_blocks) _ p.1 in
    let r = both-parts (leb (row_count ws 0 (blocks ws)) most_rows) _ q.1 in
    let s = both-parts (each (block_counts n ws) 0 (blocks ws)) (each (instr_counts n ws) 0 (instructions ws)) r.1 in
    record {
      of_block = λ b h. block_few n ws b (each_first (block_counts n ws) (blocks ws) s.0 b h);
      of_instr = λ i h. instr_few n ws i (each_first (instr_counts n ws) (instructions ws) s.1 i h);
    }
