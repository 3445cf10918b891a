-- A function that no refusal from 1 to 7 hits can be lowered.
use Rattle.std.specs.Prelude.{Ok}
use Prim.Native.Nat.{ℕ, ◌+◌, ◌≤◌, ◌<◌}
use mathlib.Core.List.{List}
use mathlib.Core.Path.{◌≡◌, refl, sym}
use native.Mathlib.Omega.{arith}
use lib.ListN.{get_or}
use Rattle.input.specs.Layout.{head_field, instructions}
use Rattle.input.specs.Records.{first_instr, instr_count}
use Rattle.input.proofs.Words.{words_block, words_instr, block-says}
use Rattle.judge.specs.Judged.{unfit}
use Rattle.judge.proofs.Shapes.{shape_given, rows-placed}
use Rattle.judge.proofs.Verdicts.{AllPass, fit-given}
use Rattle.ready.specs.Ready.{InstrOf, Ready}
use Rattle.ready.proofs.Given.{ready}
use Rattle.assemble.specs.Assemble.{Lowerable}

module _ (n : ℕ) (most : n ≤ 64) (ws functions : List ℕ) (word : get_or ws 13 0 < 4294967296) (none : unfit n ws functions ≡ 0) where
  all : AllPass n ws functions
  all = fit-given n ws functions (Ok tt) (sym none) refl

  pub ready_given : Ready ws
  unfolding head_field
  ready_given = ready n most ws functions word none

  -- an instruction of a live block stands in its table
  instr_there : (b i : ℕ) → InstrOf ws b i → i < instructions ws
  instr_there b i o =
      let p : first_instr ws b + instr_count ws b ≤ instructions ws = rows-placed ws (shape_given ws all.shape).rows b o.block.there o.block.is in
      omega (arith, o.until)

  pub lowerable_given : Lowerable ws
  lowerable_given =
      record {
        ready = ready_given;
        instrs = λ b i o.
            record {
              form = words_instr ws all.words i (instr_there b i o);
              arguments = ready_given.few_arguments b i o;
              builtin = ready_given.few_sys b i o;
            };
        terms = λ b l. (block-says ws b (words_block ws all.words b l.there)).kind;
      }
