-- The ops of a call stand where its block says.
use mathlib.Core.Path.{◌≡◌, ap, ◌∙◌}
use Prim.Native.Nat.{ℕ, suc, ◌+◌, ◌-◌}
use mathlib.Core.List.{List, ◌∷◌, ◌++◌}
use native.Mathlib.Omega.{arith}
use lib.ListN.{length, get_or, drop, length-append}
use lib.Seq.{drop_at}
use Rattle.base.specs.Emission.{Out, emit_all}
use Rattle.base.proofs.Pens.{emit_all-ops}
use Rattle.machine.specs.Calls.{Kind, function, builtin}
use Rattle.input.specs.Records.{destination, operands_of}
use Rattle.assign.specs.Walk.{assigned}
use Rattle.lower.specs.Operands.{place_at}
use Rattle.calls.specs.Calls.{pushed_for, lower_call, lower_sys}
use Rattle.calls_proof.specs.CallsRight.{CallsRight}
use Rattle.instrs.specs.Instrs.{Env, call_ops, sys_ops, instr_ops}
use Rattle.calls_kept.specs.CallsKept.{Calls, calls_function, calls_builtin, ops_before, ops_after}
use Rattle.layout.specs.Layout.{Stands, InstrAt}
use Rattle.lists.specs.declared.Used.{Used}
use Rattle.first_checks.specs.Buffers.{Buffers}
use Rattle.compile.specs.Compile.{env_of}
use Rattle.demand3.specs.Demand3.{called_op, CallAt}

-- words that an instruction emits stand from its pc to the next one's
module _ {n : ℕ} {env : Env} {out : Out} {heads : List ℕ} {i pc pc' : ℕ} (x : InstrAt n env out heads i pc pc') (words : List ℕ)
    (is : instr_ops n env x.table i x.before ≡ emit_all words x.before) where
  ops_are : (instr_ops n env x.table i x.before).ops ≡ x.before.ops ++ words
  ops_are = ap (λ (o : Out). o.ops) is ∙ emit_all-ops words x.before

  emitted_stands : Stands out.ops pc words
  emitted_stands =
      let e : drop pc (instr_ops n env x.table i x.before).ops ≡ words = ap (drop pc) ops_are ∙ drop_at x.before.ops words pc x.from in
      rw e at x.stands

  emitted_until : pc + length words ≡ pc'
  emitted_until = omega (arith, x.from, x.until, simp length-append at (ap length ops_are))

-- a call with the registers noted for v, which it defines
module _ {n : ℕ} (right : CallsRight n) (ws : List ℕ) (b : Buffers) (u : Used) (i v table : ℕ) (o : Out) (dst : destination ws i ≡ suc v) where
  call_emits : (kind : Kind) → Calls ws i kind
      → instr_ops n (env_of n ws b u) table i o ≡ emit_all (ops_before n ws kind i v ++ (called_op n ws b u kind i ∷ ops_after n ws kind i v)) o
  unfolding instr_ops call_ops sys_ops lower_call lower_sys
  call_emits kind (calls_function e) =
      let d : destination ws i - 1 ≡ v = omega arith in
      rw (e, d)
      (right.emits (assigned n ws).map (pushed_for function (get_or (assigned n ws).noted v 0) (length (operands_of ws i))) (operands_of ws i)
      (called_op n ws b u function i) (place_at (assigned n ws).map v) o)
  call_emits kind (calls_builtin e) =
      let d : destination ws i - 1 ≡ v = omega arith in
      rw (e, d)
      (right.emits (assigned n ws).map (pushed_for builtin (get_or (assigned n ws).noted v 0) (length (operands_of ws i))) (operands_of ws i)
      (called_op n ws b u builtin i) (place_at (assigned n ws).map v) o)

-- it stands in its block
pub call_at : {n : ℕ} → CallsRight n → (ws : List ℕ) (b : Buffers) (u : Used) {out : Out} {heads : List ℕ} {i pc pc' : ℕ} (v : ℕ)
    → InstrAt n (env_of n ws b u) out heads i pc pc'
    → destination ws i ≡ suc v → (kind : Kind) → Calls ws i kind → CallAt n ws b u out.ops kind i v pc pc'
call_at {n} right ws b u {i = i} v x dst kind calls =
    let e = call_emits right ws b u i v x.table x.before dst kind calls in
    let l : List ℕ = ops_before n ws kind i v ++ (called_op n ws b u kind i ∷ ops_after n ws kind i v) in
    record {
      stands = emitted_stands x l e;
      until = emitted_until x l e;
    }
