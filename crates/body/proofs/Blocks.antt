-- A block and the blocks of a function, turn by turn, and how far the tally goes.
use mathlib.Core.Path.{◌≡◌, sym, ◌∙◌}
use mathlib.Core.Bool.{true}
use Prim.Native.Nat.{ℕ, zero, suc, ◌+◌, ◌*◌, ◌-◌, ◌≤◌, ◌<◌}
use mathlib.Core.List.{List}
use native.Mathlib.Omega.{arith}
use borrow.Author.Tests.{eqb-true, eq-eqb, ne_eqb}
use lib.Dec.{eqb}
use lib.ListN.{length, length-append}
use Rattle.base.specs.Choice.{pick}
use Rattle.base.specs.declared.Pen.{Pen}
use Rattle.base.specs.Emission.{Out, bind}
use Rattle.base.specs.Lent.{Lowers}
use Rattle.base.proofs.Numbers.{pick-both, pick_case}
use Rattle.base.proofs.Pens.{then, renamed}
use Rattle.input.specs.Layout.{blocks}
use Rattle.input.specs.Records.{tombstone, first_instr, instr_count, term_kind, first_edge, term_y, switch, instr_kind, lookup}
use Rattle.rows.specs.Rows.{block_rows, rows_from}
use Rattle.rows.proofs.Every.{length-live}
use Rattle.edges.specs.Edges.{has_moves, pad_count}
use Rattle.ready.specs.Ready.{Ready, Live}
use Rattle.body.specs.declared.Tally.{Tally}
use Rattle.instrs.specs.Instrs.{Env, lookups_in, instrs_ops}
use Rattle.terms.specs.Terms.{term_ops}
use Rattle.body.specs.Body.{next_live, tallied, is_switch, block_ops, blocks_ops, root_ret, body_ops}

-- ---- a block: its label, its instructions, its terminator
pub block_as : (n : ℕ) (env : Env) (t : Tally) (b₀ k : ℕ) {first count next : ℕ} {o b l o₁ b₁ l₁ o₂ b₂ l₂ o₃ b₃ l₃ : List ℕ} {p p₁ p₂ p₃ : Pen}
    → first ≡ first_instr env.ws b₀ → count ≡ instr_count env.ws b₀ → next ≡ next_live env.ws (b₀ + 1) k → Lowers (bind b₀) o b l p o₁ b₁ l₁ p₁
    → Lowers (instrs_ops n env t.lookups first count) o₁ b₁ l₁ p₁ o₂ b₂ l₂ p₂
    → Lowers (term_ops n env t.switches t.label next b₀) o₂ b₂ l₂ p₂ o₃ b₃ l₃ p₃ → Lowers (block_ops n env t b₀ k) o b l p o₃ b₃ l₃ p₃
unfolding block_ops
block_as n env t b₀ k e f g x y z = renamed (then (then x y) z) (λ q. rw (e, f, g))

pub live_at : (ws : List ℕ) (b : ℕ) {m mark : ℕ} → m ≡ blocks ws → b < m → mark ≡ tombstone ws b → mark ≡ 0 → Live ws b
live_at ws b n h e f = record { there = omega arith; is = eq-eqb (tombstone ws b) 0 (sym e ∙ f) }

-- ---- block b of the m, with a mark
module _ (n : ℕ) (env : Env) (t : Tally) (b m : ℕ) {mark : ℕ} (e : mark ≡ tombstone env.ws b) (h : b < m) where
  pub blocks-live : {k : ℕ} {t' : Tally} → mark ≡ 0 → k ≡ m - b - 1 → t' ≡ tallied env.ws env.places b t → (q : Out)
      → blocks_ops n env t b (m - b) q ≡ blocks_ops n env t' (b + 1) (m - (b + 1)) (block_ops n env t b k q)
  unfolding blocks_ops
  blocks-live f g s q =
      let a : m - b ≡ suc (m - (b + 1)) = omega arith in
      let c : m - b - 1 ≡ m - (b + 1) = omega arith in
      rw (a, g, c, s, sym e ∙ f)

  pub blocks-dead : (mark ≡ 0 → ⊥) → (q : Out) → blocks_ops n env t b (m - b) q ≡ blocks_ops n env t (b + 1) (m - (b + 1)) q
  unfolding blocks_ops
  blocks-dead f q =
      let a : m - b ≡ suc (m - (b + 1)) = omega arith in
      rw (a, ne_eqb (tombstone env.ws b) 0 (λ (z : tombstone env.ws b ≡ 0). f (e ∙ z)))

pub blocks_none : (n : ℕ) (env : Env) (t : Tally) (b m : ℕ) → m ≤ b → (q : Out) → blocks_ops n env t b (m - b) q ≡ q
unfolding blocks_ops
blocks_none n env t b m h q = let a : m - b ≡ 0 = omega arith in rw a

-- ---- the tally
lookups_most : (ws : List ℕ) (i k : ℕ) → lookups_in ws i k ≤ k
unfolding lookups_in
lookups_most ws i zero = omega arith
lookups_most ws i (suc k) =
    let x : ℕ = pick (eqb (instr_kind ws i) lookup) 1 0 in
    let h : x ≤ 1 = pick-both (λ (y : ℕ). y ≤ 1) (eqb (instr_kind ws i) lookup) 1 0 (omega arith) (omega arith) in
    omega (arith, lookups_most ws (i + 1) k)

pads_most : (ws map : List ℕ) (e k : ℕ) → pad_count ws map e k ≤ k
unfolding pad_count
pads_most ws map e zero = omega arith
pads_most ws map e (suc k) =
    let x : ℕ = pick (has_moves ws map e) 1 0 in
    let h : x ≤ 1 = pick-both (λ (y : ℕ). y ≤ 1) (has_moves ws map e) 1 0 (omega arith) (omega arith) in
    omega (arith, pads_most ws map (e + 1) k)

pub pads_few : (ws map : List ℕ) (e k : ℕ) {pads : ℕ} → pads ≡ pad_count ws map e k → pads ≤ k
pads_few ws map e k f = rw f (pads_most ws map e k)

-- a block's rows are some of all
rows_most : (ws : List ℕ) (b n j : ℕ) → j < n → length (block_rows ws (b + j)) ≤ length (rows_from ws b n)
unfolding rows_from
rows_most ws b zero j h = absurd (omega arith)
rows_most ws b (suc n) zero h =
    let e : b + 0 ≡ b = omega arith in
    rw e (omega (arith, length-append (block_rows ws b) (rows_from ws (b + 1) n)))
rows_most ws b (suc n) (suc j) h =
    let e : b + suc j ≡ b + 1 + j = omega arith in
    rw e (omega (arith, length-append (block_rows ws b) (rows_from ws (b + 1) n), rows_most ws (b + 1) n j (omega arith)))

pub instrs_few : (ws : List ℕ) (b : ℕ) → Ready ws → Live ws b → instr_count ws b ≤ 16384
instrs_few ws b r live =
    let e : 0 + b ≡ b = omega arith in
    omega (arith, r.few_rows, length-live ws b live.is, rw e at (rows_most ws 0 (blocks ws) b live.there))

-- how far the numbers are before block b
pub record Tallied (t : Tally) (b : ℕ) : Type 0 where
  pub switches_few : t.switches ≤ 65534 + b
  pub lookups_few : t.lookups ≤ 65534 + 16384 * b
  pub label_few : t.label ≤ 2048 + 1024 * b

-- what stands before a block and in it keeps to the numbers
pub tally_low : (ws : List ℕ) (b : ℕ) {t : Tally} → Ready ws → Live ws b → Tallied t b
    → (t.switches < 4294967295) × (t.lookups + instr_count ws b < 4294967296) × (t.label + 1024 < 4294967296)
tally_low ws b r live x = (
  omega (arith, x.switches_few, r.few_blocks, live.there),
  omega (arith, x.lookups_few, instrs_few ws b r live, r.few_blocks, live.there),
  omega (arith, x.label_few, r.few_blocks, live.there),
)

pub tallied-dead : {t : Tally} {b : ℕ} → Tallied t b → Tallied t (b + 1)
tallied-dead x =
    record {
      switches_few = omega (arith, x.switches_few);
      lookups_few = omega (arith, x.lookups_few);
      label_few = omega (arith, x.label_few);
    }

pub tallied-live : (ws places : List ℕ) (b : ℕ) {t t' : Tally} → Ready ws → Live ws b → t' ≡ tallied ws places b t → Tallied t b → Tallied t' (b + 1)
unfolding tallied
tallied-live ws places b {t} {t'} r live e x =
    let one : pick (is_switch ws b) 1 0 ≤ 1 = pick-both (λ (y : ℕ). y ≤ 1) (is_switch ws b) 1 0 (omega arith) (omega arith) in
    let pads : pick (is_switch ws b) (pad_count ws places (first_edge ws b) (term_y ws b)) 0 ≤ 1024 =
    pick_case (λ (y : ℕ). y ≤ 1024) (is_switch ws b) (pad_count ws places (first_edge ws b) (term_y ws b)) 0
    (λ (s : is_switch ws b ≡ true). omega (arith, pads_most ws places (first_edge ws b) (term_y ws b), (r.cases b live (eqb-true (term_kind ws b) switch s)).few))
    (λ _. omega arith) in
    rw e
    (record {
      switches_few = omega (arith, x.switches_few);
      lookups_few = omega (arith, x.lookups_few, lookups_most ws (first_instr ws b) (instr_count ws b), instrs_few ws b r live);
      label_few = omega (arith, x.label_few);
    })

-- the tally behind a block with a Switch, and behind another
module _ (ws places : List ℕ) (b : ℕ) (t : Tally) {kind first count found : ℕ} (k : kind ≡ term_kind ws b) (f : first ≡ first_instr ws b)
    (c : count ≡ instr_count ws b) (s : found ≡ lookups_in ws first count) where
  pub tally-switch : {e cases pads : ℕ} → kind ≡ switch → e ≡ first_edge ws b → cases ≡ term_y ws b → pads ≡ pad_count ws places e cases
      → ◌≡◌ {A = Tally} (record { switches = t.switches + 1; lookups = t.lookups + found; label = t.label + pads }) (tallied ws places b t)
  unfolding tallied
  tally-switch h g y x = rw (sym k ∙ h, ← f, ← c, ← s, ← g, ← y, ← x)

  pub tally_other : (kind ≡ switch → ⊥)
      → ◌≡◌ {A = Tally} (record { switches = t.switches; lookups = t.lookups + found; label = t.label }) (tallied ws places b t)
  unfolding tallied
  tally_other h =
      let a : t.switches + 0 ≡ t.switches = omega arith in
      let d : t.label + 0 ≡ t.label = omega arith in
      rw (ne_eqb (term_kind ws b) switch (λ (z : term_kind ws b ≡ switch). h (k ∙ z)), ← f, ← c, ← s, a, d)

-- ---- the body
pub body_as : (n : ℕ) (env : Env) (switches lookups : ℕ) {count : ℕ} {o b l o₁ b₁ l₁ o₂ b₂ l₂ : List ℕ} {p p₁ p₂ : Pen} → count ≡ blocks env.ws
    → Lowers (blocks_ops n env (record { switches = switches; lookups = lookups; label = 2 * count }) 0 (blocks env.ws)) o b l p o₁ b₁ l₁ p₁
    → Lowers (root_ret env.ws) o₁ b₁ l₁ p₁ o₂ b₂ l₂ p₂ → Lowers (body_ops n env switches lookups) o b l p o₂ b₂ l₂ p₂
unfolding body_ops
body_as n env switches lookups e x y = renamed (then x y) (λ q. rw e)
