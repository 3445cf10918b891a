-- LoadConst, Call and Sys by what the code found.
use mathlib.Core.Path.{◌≡◌, refl, ap, ◌∙◌}
use mathlib.Core.Bool.{false}
use Prim.Native.Nat.{ℕ, zero, suc, ◌+◌, ◌*◌, ◌-◌, ◌/◌, ◌≤◌}
use mathlib.Core.List.{List, [], ◌∷◌}
use native.Mathlib.Omega.{arith}
use lib.Dec.{eqb}
use lib.ListN.{length, get_or, take, length-take}
use lib.Seq.{take-nil, take_all}
use Rattle.base.specs.Choice.{pick}
use Rattle.base.specs.declared.Pen.{Pen}
use Rattle.base.specs.Emission.{Out}
use Rattle.base.specs.Lent.{Lowers}
use Rattle.base.proofs.Numbers.{pick-both}
use Rattle.base.proofs.Pens.{renamed}
use Rattle.input.specs.Layout.{list_at}
use Rattle.input.specs.Records.{destination, operands_at, operand_count, instr_x, constant_kind, payload_of}
use Rattle.input.specs.Forms.{both}
use Rattle.lower.specs.Instructions.{is_global, const_ops, lower_const}
use Rattle.calls.specs.Calls.{lower_call, lower_sys}
use Rattle.interning.specs.Interning.{global_of, builtin_of}
use Rattle.instrs.specs.Instrs.{dest_place, load_const_ops, call_ops, sys_ops}

-- a constant that LoadG does not load needs no number
const_any : (n d kind payload g g' : ℕ) (q : Out) → is_global kind payload ≡ false → lower_const n d kind payload g q ≡ lower_const n d kind payload g' q
unfolding lower_const const_ops
const_any n d kind payload g g' q h = rw h

module _ (n : ℕ) (ws places globals : List ℕ) (i c : ℕ) {kind payload d : ℕ} {o b l o' b' l' : List ℕ} {p p' : Pen} (e : kind ≡ constant_kind ws c)
    (f : payload ≡ payload_of ws c) (g : d ≡ dest_place ws places i) where
  pub load_global : {number : ℕ} → number ≡ global_of kind payload globals → Lowers (lower_const n d kind payload number) o b l p o' b' l' p'
      → Lowers (load_const_ops n ws places globals i c) o b l p o' b' l' p'
  unfolding load_const_ops
  load_global h s = rw (← f, ← e, ← g, ← h) s

  pub load_other : is_global kind payload ≡ false → Lowers (lower_const n d kind payload 0) o b l p o' b' l' p'
      → Lowers (load_const_ops n ws places globals i c) o b l p o' b' l' p'
  unfolding load_const_ops
  load_other h s = rw (← f, ← e, ← g) (renamed s (λ q. const_any n d kind payload 0 (global_of kind payload globals) q h))

-- an odd number at the end of the globals is none
global_cut : (kind payload : ℕ) (l : List ℕ) (n : ℕ) → length l ≤ 2 * n + 1 → global_of kind payload (take (2 * n) l) ≡ global_of kind payload l
unfolding global_of
global_cut kind payload [] n h = rw (take-nil (2 * n))
global_cut kind payload (k ∷ []) zero h = refl
global_cut kind payload (k ∷ []) (suc n) h = rw (take_all (2 * suc n) (k ∷ []) (omega arith))
global_cut kind payload (k ∷ p ∷ l) zero h = absurd (omega arith)
global_cut kind payload (k ∷ p ∷ l) (suc n) h =
    let e : 2 * suc n ≡ suc (suc (2 * n)) = omega arith in
    let i : length l ≤ 2 * n + 1 = omega arith in
    rw e (ap (λ (m : ℕ). pick (both (eqb k kind) (eqb p payload)) 0 (suc m)) (global_cut kind payload l n i))

pub global_whole : (kind payload : ℕ) (l : List ℕ) {number : ℕ} → number ≡ global_of kind payload (take (2 * (length l / 2)) l) → number ≡ global_of kind payload l
global_whole kind payload l e = e ∙ global_cut kind payload l (length l / 2) (omega arith)

-- the number of a builtin is at most their count
builtin_most : (x : ℕ) (l : List ℕ) → builtin_of x l ≤ length l
unfolding builtin_of
builtin_most x [] = omega arith
builtin_most x (y ∷ l) =
    pick-both (λ (k : ℕ). k ≤ suc (length l)) (eqb y x) 0 (suc (builtin_of x l)) (omega arith) (omega (arith, builtin_most x l))

pub builtin_few : (x : ℕ) (l : List ℕ) {number : ℕ} → number ≡ builtin_of x (take (length l) l) → number ≤ length l
builtin_few x l e = omega (arith, builtin_most x (take (length l) l), length-take (length l) l)

-- the operands, the noted registers and the destination, as the code found them
module _ (n : ℕ) (ws places noted : List ℕ) (i : ℕ) {at count mask d : ℕ} {o b l o' b' l' : List ℕ} {p p' : Pen} (e : at ≡ operands_at ws i)
    (f : count ≡ operand_count ws i) (g : mask ≡ get_or noted (destination ws i - 1) 0) (h : d ≡ dest_place ws places i) where
  pub call_as : (functions : List ℕ) {x w : ℕ} → x ≡ instr_x ws i → w ≡ get_or functions x 0
      → Lowers (lower_call n places mask (list_at ws at count) w d) o b l p o' b' l' p' → Lowers (call_ops n ws places noted functions i) o b l p o' b' l' p'
  unfolding call_ops
  call_as functions j k s = rw (← e, ← f, ← g, ← h, ← j, ← k) s

  pub sys_as : (builtins : List ℕ) {x number : ℕ} → x ≡ instr_x ws i → number ≡ builtin_of x (take (length builtins) builtins)
      → Lowers (lower_sys n places mask (list_at ws at count) number d) o b l p o' b' l' p' → Lowers (sys_ops n ws places noted builtins i) o b l p o' b' l' p'
  unfolding sys_ops
  sys_as builtins {x} j k s = rw (← e, ← f, ← g, ← h, ← j, ← (k ∙ ap (builtin_of x) (take_all (length builtins) builtins (omega arith)))) s
