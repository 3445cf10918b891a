-- The chain of an instruction's kinds, and a run of instructions turn by turn.
use mathlib.Core.Path.{◌≡◌}
use Prim.Native.Nat.{ℕ, suc, ◌+◌, ◌-◌, ◌≤◌, ◌<◌}
use mathlib.Core.List.{List}
use native.Mathlib.Omega.{arith}
use lib.Dec.{eqb}
use Rattle.base.specs.Choice.{pick}
use Rattle.base.specs.declared.Pen.{Pen}
use Rattle.base.specs.Emission.{Out, at_span}
use Rattle.base.specs.Lent.{Lowers}
use Rattle.input.specs.Records.{instr_kind, instr_span, load_const, call, sys, lookup}
use Rattle.instrs.specs.Instrs.{Env, compute_ops, instr_ops, instrs_ops}
use Rattle.instr_runs.proofs.Chosen.{Others, none_of}

pub instr_compute : (n : ℕ) (env : Env) (table i kind : ℕ) {o b l o' b' l' : List ℕ} {p p' : Pen} → kind ≡ instr_kind env.ws i
    → Others kind load_const call sys lookup → Lowers (compute_ops n env.ws env.places i) o b l p o' b' l' p'
    → Lowers (instr_ops n env table i) o b l p o' b' l' p'
unfolding instr_ops
instr_compute n env table i kind e h s = let f = none_of kind (instr_kind env.ws i) load_const call sys lookup e h in rw (f.0, f.1, f.2, f.3) s

-- instruction i of those up to the end
module _ (n : ℕ) (env : Env) (t i : ℕ) where
  pub instrs_on : (end : ℕ) {x s : ℕ} → i < end → s ≡ instr_span env.ws i → x ≡ pick (eqb (instr_kind env.ws i) lookup) 1 0 → (q : Out)
      → instrs_ops n env t i (end - i) q ≡ instrs_ops n env (t + x) (i + 1) (end - (i + 1)) (instr_ops n env t i (at_span s q))
  unfolding instrs_ops
  instrs_on end h e f q = let a : end - i ≡ suc (end - (i + 1)) = omega arith in rw (a, e, f)

  pub instrs_none : (end : ℕ) → end ≤ i → (q : Out) → instrs_ops n env t i (end - i) q ≡ q
  unfolding instrs_ops
  instrs_none end h q = let a : end - i ≡ 0 = omega arith in rw a
