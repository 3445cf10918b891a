-- The function by the registers that its frame pushes, with every label zero before.
use mathlib.Core.Path.{◌≡◌, ap, ◌∙◌}
use Prim.Native.Nat.{ℕ, ◌-◌, ◌≤◌}
use mathlib.Core.List.{List}
use native.Mathlib.Omega.{arith}
use lib.ListN.{length, take, replicate, length-take}
use Rattle.base.specs.Buffers.{filled_from, zero_from}
use Rattle.base.specs.declared.Pen.{Pen}
use Rattle.base.proofs.Buffers.{get_or-zero_from-after}
use Rattle.place.specs.Registers.{registers}
use Rattle.input.specs.Layout.{function_id}
use Rattle.instrs.specs.Instrs.{Env}
use Rattle.frame.specs.Frames.{frame_regs}
use Rattle.lists.specs.declared.Used.{Used}
use Rattle.assemble.specs.Assemble.{start_out, function_out}
use Rattle.assemble.specs.Ops.{out_at, out_of, FrameReady, OpsPut}

-- zero from the start on is zero in every place
zeros : (l : List ℕ) → zero_from l 0 ≡ replicate (length l) 0
unfolding filled_from
zeros l = let e : length l - 0 ≡ length l = omega arith in rw e

-- no label is bound where all are zero
pub frame_ready : (labels₀ labels regs : List ℕ) (k : ℕ) → labels ≡ zero_from labels₀ 0 → k ≤ 192 → FrameReady labels (take k regs)
frame_ready labels₀ labels regs k e f =
    record { unbound = λ t. rw e (get_or-zero_from-after labels₀ 0 t (omega arith)); few = omega (arith, length-take k regs) }

-- the function by the registers that its frame pushes
pub function_put : (env : Env) (u : Used) (id top slots : ℕ) (ops spans labels labels₁ regs : List ℕ) {ops'' spans'' labels'' : List ℕ} {p : Pen}
    → id ≡ function_id env.ws → regs ≡ frame_regs registers id top slots → labels₁ ≡ zero_from labels 0
    → OpsPut (out_of regs env u (out_at env.ws ops spans labels₁ u.ops)) u.ops ops spans ops'' spans'' labels'' p
    → OpsPut (function_out registers env u top slots (start_out env.ws ops spans labels u)) u.ops ops spans ops'' spans'' labels'' p
unfolding function_out
function_put env u id top slots ops spans labels labels₁ regs e f g h =
    let i : regs ≡ frame_regs registers (function_id env.ws) top slots = f ∙ ap (λ (x : ℕ). frame_regs registers x top slots) e in
    rw (i, g ∙ zeros labels) at h
