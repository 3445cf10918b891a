-- Moves through the pen: the ops of one move, and the turns of `put_moves`.
use mathlib.Core.Path.{◌≡◌, refl}
use Prim.Native.Nat.{ℕ, zero, suc, ◌+◌, ◌-◌, ◌≤◌, ◌<◌}
use mathlib.Core.List.{List, [], ◌++◌, map, map-append}
use native.Mathlib.Nat.{not-suc-le-zero, sub-zero}
use native.Mathlib.Omega.{arith}
use borrow.Author.Tests.{lt-ltb, le-ltb}
use lib.ListN.{length, get_or, take, set}
use lib.Seq.{get_or-take, length-take-le, take-append_seam}
use Rattle.base.specs.declared.Pen.{Pen}
use Rattle.base.specs.Emission.{Out, emit, emit_all}
use Rattle.base.specs.Lent.{Lowers}
use Rattle.base.proofs.Pens.{then, renamed, emit_all-append}
use Rattle.place.specs.Registers.{scratch_of, tmp_of}
use Rattle.place.specs.Places.{slots_from}
use Rattle.op.specs.Words.{word}
use Rattle.op.specs.Ops.{mov, load_slot, store_slot}
use Rattle.moves.specs.Moves.{move_ops, first_ready, swap_remove, park, turns, moves, move_words}
use Rattle.moves.proofs.Columns.{swap_take}
use Rattle.moves.proofs.Turns.{turns_ready, turns-park, none_left}

-- one move by the kinds of its places
module _ (tmp s d : ℕ) {o b l o' b' : List ℕ} {p p' : Pen} where
  pub reg_to_reg : {w : ℕ} → s < slots_from → d < slots_from → w ≡ word (mov d s) → Lowers (emit w) o b l p o' b' l p'
      → Lowers (emit_all (map word (move_ops tmp s d))) o b l p o' b' l p'
  unfolding emit_all
  reg_to_reg h k e x = renamed x (λ q. rw (lt-ltb s slots_from h, lt-ltb d slots_from k, e))

  pub reg_to_slot : {w : ℕ} → s < slots_from → slots_from ≤ d → w ≡ word (store_slot (d - slots_from) s) → Lowers (emit w) o b l p o' b' l p'
      → Lowers (emit_all (map word (move_ops tmp s d))) o b l p o' b' l p'
  unfolding emit_all
  reg_to_slot h k e x = renamed x (λ q. rw (lt-ltb s slots_from h, le-ltb d slots_from k, e))

  pub slot_to_reg : {w : ℕ} → slots_from ≤ s → d < slots_from → w ≡ word (load_slot d (s - slots_from)) → Lowers (emit w) o b l p o' b' l p'
      → Lowers (emit_all (map word (move_ops tmp s d))) o b l p o' b' l p'
  unfolding emit_all
  slot_to_reg h k e x = renamed x (λ q. rw (le-ltb s slots_from h, lt-ltb d slots_from k, e))

  pub slot_to_slot : {t w w' : ℕ} {o₁ b₁ : List ℕ} {p₁ : Pen} → slots_from ≤ s → slots_from ≤ d → t ≡ tmp
      → w ≡ word (load_slot t (s - slots_from)) → w' ≡ word (store_slot (d - slots_from) t)
      → Lowers (emit w) o b l p o₁ b₁ l p₁ → Lowers (emit w') o₁ b₁ l p₁ o' b' l p'
      → Lowers (emit_all (map word (move_ops tmp s d))) o b l p o' b' l p'
  unfolding emit_all
  slot_to_slot h k r e e' x y = renamed (then x y) (λ q. rw (le-ltb s slots_from h, le-ltb d slots_from k, e, e', r))

-- a list made of two is the first of them up to its length
pub take-at_seam : (xs ys : List ℕ) {l : List ℕ} {n : ℕ} → length xs ≡ n → l ≡ xs ++ ys → take n l ≡ xs
take-at_seam xs ys k e = rw (e, ← k) (take-append_seam xs ys)

-- what the first n moves of two columns emit in f turns, on a machine with so many registers
unfoldable pub rest_of : ℕ → ℕ → List ℕ → List ℕ → ℕ → Out → Out
rest_of regs f src dst n q = emit_all (map word (turns (scratch_of regs) (tmp_of regs) f (take n src) (take n dst))) q

module _ (regs : ℕ) (src dst : List ℕ) where
  pub rest-start : (n : ℕ) → n ≤ length dst → (q : Out)
      → rest_of regs (n + n - 0) src dst n q ≡ emit_all (move_words regs (take n src) (take n dst)) q
  unfolding rest_of move_words moves
  rest-start n h q = rw (sub-zero (n + n), length-take-le n dst h)

  pub rest_ready : (n m t i : ℕ) → n ≤ length src → n ≤ length dst → t < m → i ≡ first_ready (take n src) (take n dst) → i < n → (q : Out)
      → rest_of regs (m - t) src dst n q
      ≡ rest_of regs (m - (t + 1)) (set src i (get_or src (n - 1) 0)) (set dst i (get_or dst (n - 1) 0)) (n - 1)
      (emit_all (map word (move_ops (tmp_of regs) (get_or src i 0) (get_or dst i 0))) q)
  unfolding rest_of
  rest_ready n m t i hs hd ht e h q =
      let ss : List ℕ = take n src in
      let ds : List ℕ = take n dst in
      let f : ℕ = m - (t + 1) in
      let k : first_ready ss ds < length ds = rw (← e, length-take-le n dst hd) h in
      let g : m - t ≡ suc f = omega arith in
      let r : turns (scratch_of regs) (tmp_of regs) (suc f) ss ds
      ≡ move_ops (tmp_of regs) (get_or src i 0) (get_or dst i 0) ++ turns (scratch_of regs) (tmp_of regs) f (swap_remove ss i) (swap_remove ds i) =
      (rw (← e, get_or-take n src i 0 h, get_or-take n dst i 0 h) at (turns_ready (scratch_of regs) (tmp_of regs) f ss ds k)) in
      rw (g, swap_take src n i hs h, swap_take dst n i hd h, r, map-append) (emit_all-append _ _ q)

  pub rest-park : (src' : List ℕ) (n m t scratch : ℕ) → n ≤ length dst → t < m → n ≤ first_ready (take n src) (take n dst) → 0 < n
      → scratch ≡ scratch_of regs → take n src' ≡ park (get_or src 0 0) scratch (take n src) → (q : Out)
      → rest_of regs (m - t) src dst n q
      ≡ rest_of regs (m - (t + 1)) src' dst n (emit_all (map word (move_ops (tmp_of regs) (get_or src 0 0) scratch)) q)
  unfolding rest_of
  rest-park src' n m t scratch hd ht e h r p q =
      let ss : List ℕ = take n src in
      let ds : List ℕ = take n dst in
      let f : ℕ = m - (t + 1) in
      let g : m - t ≡ suc f = omega arith in
      let k : length ds ≤ first_ready ss ds = rw (length-take-le n dst hd) e in
      let z : 0 < length ds = rw (length-take-le n dst hd) h in
      let s : turns (scratch_of regs) (tmp_of regs) (suc f) ss ds
      ≡ move_ops (tmp_of regs) (get_or src 0 0) scratch ++ turns (scratch_of regs) (tmp_of regs) f (park (get_or src 0 0) scratch ss) ds =
      rw r (rw (get_or-take n src 0 0 h) at (turns-park (scratch_of regs) (tmp_of regs) f ss ds k z)) in
      rw (g, p, s, map-append) (emit_all-append _ _ q)

  -- no move is left, or no turn
  pub rest_none : (n f : ℕ) → n ≡ 0 → (q : Out) → rest_of regs f src dst n q ≡ q
  unfolding rest_of emit_all
  rest_none n f e q = rw (e, none_left (scratch_of regs) (tmp_of regs) f [] [] refl)

  pub rest_out : (n f : ℕ) → f ≤ 0 → (q : Out) → rest_of regs f src dst n q ≡ q
  unfolding rest_of turns emit_all
  rest_out n zero h q = refl
  rest_out n (suc f) h q = absurd (not-suc-le-zero h)
