-- Blocks one behind the other: each binds its own labels alone, and the next live one starts where this one ends.
use mathlib.Core.Path.{◌≡◌, refl, ap, ◌∙◌}
use mathlib.Core.Logic.{◌≢◌, ⊎_elim}
use mathlib.Core.Bool.{true, false}
use Prim.Native.Nat.{ℕ, zero, suc, ◌+◌, ◌*◌, ◌≤◌, ◌<◌}
use mathlib.Core.List.{List}
use native.Mathlib.Omega.{arith}
use lib.ListN.{length, get_or}
use Rattle.base.specs.Choice.{pick}
use Rattle.base.specs.Emission.{Out, bind}
use Rattle.base.proofs.Numbers.{both, pick-both}
use Rattle.op.specs.Words.{word}
use Rattle.op.specs.Ops as op
use Rattle.input.specs.Layout.{function_id, blocks}
use Rattle.input.specs.Records.{is_live, first_instr, instr_count, term_kind, first_edge, term_y}
use Rattle.ready.specs.Ready.{Ready, Live}
use Rattle.edges.specs.Edges.{pad_count}
use Rattle.body.specs.declared.Tally.{Tally}
use Rattle.instrs.specs.Instrs.{Env, lookups_in, instrs_ops}
use Rattle.body.specs.Body.{is_switch, next_live, tallied, block_ops, blocks_ops, ends_flow, root_ret}
use lib.Dec.{eqb}
use Rattle.layout.proofs.Adding.{Adds, Any, stays, adds_none, adds_then, adds_any, adds_fewer, adds_emit, adds_bind, adds_few, bind-ops, bound_at}
use Rattle.layout.proofs.Instrs.{instrs_going}
use Rattle.layout.proofs.Terms.{term_adds, term_long}

-- the labels of the blocks before b, and of the pads before L
pub data Old (bs b L l : ℕ) : Type 0 where
  block : l < b → Old bs b L l
  no : bs ≤ l → l < bs + b → Old bs b L l
  pad : 2 * bs ≤ l → l < L → Old bs b L l

pub old_more : {bs b b' L L' l : ℕ} → b ≤ b' → L ≤ L' → Old bs b L l → Old bs b' L' l
old_more h g (block x) = block (omega arith)
old_more h g (no x y) = no x (omega arith)
old_more h g (pad x y) = pad x (omega arith)

old_block : {bs b L l : ℕ} → b < bs → Old bs b L l → l ≢ b
old_block h (block x) e = omega arith
old_block h (no x y) e = omega arith
old_block h (pad x y) e = omega arith

old_no : {bs b L l : ℕ} → b < bs → Old bs b L l → l ≢ bs + b
old_no h (block x) e = omega arith
old_no h (no x y) e = omega arith
old_no h (pad x y) e = omega arith

old_pad : {bs b L l : ℕ} → b < bs → 2 * bs ≤ L → Old bs b L l → L ≤ l → ⊥
old_pad h g (block x) e = omega arith
old_pad h g (no x y) e = omega arith
old_pad h g (pad x y) e = omega arith

-- the pads of a block
abbrev pub pads_of : List ℕ → List ℕ → ℕ → ℕ
pads_of ws places b = pick (is_switch ws b) (pad_count ws places (first_edge ws b) (term_y ws b)) 0

pub tallied-label : (ws places : List ℕ) (b : ℕ) (t : Tally) → (tallied ws places b t).label ≡ t.label + pads_of ws places b
unfolding tallied
tallied-label ws places b t = refl

pub tallied_switches : (ws places : List ℕ) (b : ℕ) (t : Tally) → (tallied ws places b t).switches ≡ t.switches + pick (is_switch ws b) 1 0
unfolding tallied
tallied_switches ws places b t = refl

pub tallied_lookups : (ws places : List ℕ) (b : ℕ) (t : Tally) → (tallied ws places b t).lookups ≡ t.lookups + lookups_in ws (first_instr ws b) (instr_count ws b)
unfolding tallied
tallied_lookups ws places b t = refl

module _ (n : ℕ) (env : Env) (known : (b : ℕ) → b < blocks env.ws → term_kind env.ws b < 8) where
  -- from a block's label on
  pub block-rest : {P : ℕ → Type 0} (t : Tally) (b k : ℕ) (q : Out) → b < blocks env.ws → ((l : ℕ) → P l → l ≢ blocks env.ws + b)
      → ((l : ℕ) → P l → t.label ≤ l → l < t.label + pads_of env.ws env.places b → ⊥) → Adds P (bind b q) (block_ops n env t b k q)
  unfolding block_ops
  block-rest t b k q h f g =
      adds_then (adds_any ((instrs_going n env t.lookups (first_instr env.ws b) (instr_count env.ws b)).by (stays (bind b q))).adds)
      (term_adds n env t.switches t.label (next_live env.ws (b + 1) k) b
      (instrs_ops n env t.lookups (first_instr env.ws b) (instr_count env.ws b) (bind b q)) (known b h) f g)

  -- two ops at least for each of its pads
  pub block_long : (t : Tally) (b k : ℕ) (q : Out) → Live env.ws b → Ready env.ws
      → length q.ops + 2 * pads_of env.ws env.places b ≤ length (block_ops n env t b k q).ops
  unfolding block_ops
  block_long t b k q live ready =
      let r : Out = instrs_ops n env t.lookups (first_instr env.ws b) (instr_count env.ws b) (bind b q) in
      let s : length (bind b q).ops ≡ length q.ops = ap length (bind-ops q b) in
      let a : length (bind b q).ops ≤ length r.ops =
      adds_few ((instrs_going n env t.lookups (first_instr env.ws b) (instr_count env.ws b)).by (stays (bind b q))).adds in
      let l = term_long n env t.switches t.label (next_live env.ws (b + 1) k) b r (known b live.there)
      (λ g i z.
      (ready.targets b (first_edge env.ws b + i) (record { block = live; from = omega arith; until = omega (arith, ready.case_edges b live g) })).there) in
      omega (arith, l)

  pub block_adds : (t : Tally) (b k : ℕ) (q : Out) → b < blocks env.ws → 2 * blocks env.ws ≤ t.label
      → Adds (Old (blocks env.ws) b t.label) q (block_ops n env t b k q)
  block_adds t b k q h g =
      adds_then (adds_bind q b (λ l p. old_block h p)) (block-rest t b k q h (λ l p. old_no h p) (λ l p a z. old_pad h g p a))

  module _ (t : Tally) (b k : ℕ) (q : Out) where
    pub blocks-live : is_live env.ws b ≡ true → blocks_ops n env t b (suc k) q ≡ blocks_ops n env (tallied env.ws env.places b t) (b + 1) k (block_ops n env t b k q)
    unfolding blocks_ops
    blocks-live h = rw h

    pub blocks-dead : is_live env.ws b ≡ false → blocks_ops n env t b (suc k) q ≡ blocks_ops n env t (b + 1) k q
    unfolding blocks_ops
    blocks-dead h = rw h

    pub next-live : is_live env.ws b ≡ true → next_live env.ws b (suc k) ≡ b
    unfolding next_live
    next-live h = rw h

    next-dead : is_live env.ws b ≡ false → next_live env.ws b (suc k) ≡ next_live env.ws (b + 1) k
    unfolding next_live
    next-dead h = rw h

  pub blocks_add : (t : Tally) (b k : ℕ) (q : Out) → b + k ≡ blocks env.ws → 2 * blocks env.ws ≤ t.label
      → Adds (Old (blocks env.ws) b t.label) q (blocks_ops n env t b k q)
  unfolding blocks_ops
  blocks_add t b zero q h g = adds_none q
  blocks_add t b (suc k) q h g =
      ⊎_elim
      (λ (live : is_live env.ws b ≡ true).
      let e = tallied-label env.ws env.places b t in
      rw (blocks-live t b k q live)
      (adds_then (block_adds t b k q (omega arith) g)
      (adds_fewer (λ l p. old_more (omega arith) (omega (arith, e)) p)
      (blocks_add (tallied env.ws env.places b t) (b + 1) k (block_ops n env t b k q) (omega arith) (omega (arith, e))))))
      (λ (dead : is_live env.ws b ≡ false).
      rw (blocks-dead t b k q dead) (adds_fewer (λ l p. old_more (omega arith) (omega arith) p) (blocks_add t (b + 1) k q (omega arith) g)))
      (both (is_live env.ws b))

  -- the next live block starts here
  pub next_bound : (t : Tally) (b k : ℕ) (q : Out) → b + k ≡ blocks env.ws → 2 * blocks env.ws ≤ t.label
      → blocks env.ws ≤ length (blocks_ops n env t b k q).labels → next_live env.ws b k < blocks env.ws
      → get_or (blocks_ops n env t b k q).labels (next_live env.ws b k) 0 ≡ length q.ops
  unfolding next_live
  next_bound t b zero q h g room i = absurd (omega arith)
  next_bound t b (suc k) q h g room i =
      ⊎_elim
      (λ (live : is_live env.ws b ≡ true).
      let e = tallied-label env.ws env.places b t in
      let same = blocks-live t b k q live in
      let one : Adds (λ l. l ≡ b) (bind b q) (blocks_ops n env t b (suc k) q) =
      rw same
      (adds_then (block-rest t b k q (omega arith) (λ l (p : l ≡ b) z. omega arith) (λ l (p : l ≡ b) a z. omega arith))
      (adds_fewer (λ l (p : l ≡ b). block (omega arith))
      (blocks_add (tallied env.ws env.places b t) (b + 1) k (block_ops n env t b k q) (omega arith) (omega (arith, e))))) in
      ap (λ (x : ℕ). get_or (blocks_ops n env t b (suc k) q).labels x 0) (next-live t b k q live)
      ∙ bound_at b q refl (omega arith) one)
      (λ (dead : is_live env.ws b ≡ false).
      let same = blocks-dead t b k q dead in
      let nx = next-dead t b k q dead in
      let room' : blocks env.ws ≤ length (blocks_ops n env t (b + 1) k q).labels = rw same at room in
      rw (same, nx) (next_bound t (b + 1) k q (omega arith) g room' (rw nx at i)))
      (both (is_live env.ws b))

-- the root's Ret binds none
pub root_adds : (ws : List ℕ) (o : Out) → Adds Any o (root_ret ws o)
unfolding root_ret
root_adds ws o =
    pick-both (Adds Any o) (eqb (function_id ws) 0) _ _ (pick-both (Adds Any o) (ends_flow o.last) _ _ (adds_none o) (adds_emit o (word op.ret))) (adds_none o)
