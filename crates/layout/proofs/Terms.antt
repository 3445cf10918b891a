-- Terminators by their kinds: what each adds, and where its ops and edges stand in the finished function.
use mathlib.Core.Path.{◌≡◌, refl, ap, ◌∙◌}
use mathlib.Core.Logic.{◌≢◌, ⊎_elim}
use mathlib.Core.Bool.{true}
use Prim.Native.Nat.{ℕ, ◌+◌, ◌*◌, ◌%◌, ◌^◌, ◌≤◌, ◌<◌}
use mathlib.Core.List.{List, [], ◌∷◌}
use native.Mathlib.Nat.{add-zero}
use native.Mathlib.Omega.{arith}
use borrow.Author.Tests.{eq-eqb, ne_eqb}
use lib.Dec.{leb, eqb}
use lib.ListN.{length, get_or}
use Rattle.base.specs.Choice.{pick}
use Rattle.base.specs.Emission.{Out, emit, emit_all, at_span}
use Rattle.base.proofs.Numbers.{lt?, same?, pick-both}
use Rattle.place.specs.Registers.{first_kept}
use Rattle.op.specs.Words.{word, parts}
use Rattle.op.specs.Ops as op
use Rattle.program.specs.Functions.{function_kind, function_number, bytecode}
use Rattle.input.specs.Forms.{both}
use Rattle.input.specs.Layout.{blocks}
use Rattle.input.specs.Records as in_words
use Rattle.input.specs.Records.{term_kind, term_span, term_operands, term_operand_count, first_edge, term_x, term_y, edge_target}
use Rattle.lower.specs.Operands.{fetched, operand_reg}
use Rattle.frame.specs.Frames.{op_at}
use Rattle.edges.specs.Pairs.{move_pairs}
use Rattle.edges.specs.Edges.{edge, pad_count}
use Rattle.calls.specs.Calls.{shuffle, tail_words, lower_tail}
use Rattle.calls_proof.specs.CallsRight.{shuffle_words}
use Rattle.instrs.specs.Instrs.{Env}
use Rattle.terms.specs.Terms.{term_place, return_ops, branch_ops, switch_ops, term_ops}
use Rattle.body.specs.Body.{is_switch}
use Rattle.layout.specs.Layout.{Stands, goes_on, Leaves, Ends, leaves, goes, ReturnAt, nothing, value}
use Rattle.layout.proofs.Straight.{code-word, goes_op, moves_go}
use Rattle.layout.proofs.Adding.{Adds, Any, Nil, stays, adds_none, adds_then, adds_any, adds_nil, adds_all, adds_emit, adds_span, adds_few, emit_long, span_ops, between_at, adds_long}
use Rattle.layout.proofs.Instrs.{by-fetch, called_goes}
use Rattle.layout.proofs.Finish.{Finished, goes_there, run_stands}
use Rattle.layout.proofs.Leaving.{by_ret, by_tail, AllLeave}
use Rattle.layout.proofs.Fetches.{fetch_at}
use Rattle.layout.proofs.Edges.{edge_adds}
use Rattle.layout.proofs.Branches.{branches_add}
use Rattle.layout.proofs.Pads.{switch_adds, switch_long}

-- the kinds one by one, the branches together
by_kind : {A : Type 0} (k : ℕ) → k < 8 → (k ≡ in_words.no_term → A) → (k ≡ in_words.return → A) → (k ≡ in_words.jump → A)
    → (in_words.branch ≤ k → k ≤ in_words.branch_cmp → A) → (k ≡ in_words.tail_call → A) → (k ≡ in_words.switch → A) → A
by_kind k h k0 k1 k2 k3 k6 k7 =
    ⊎_elim
    (λ (a : k < 3).
    ⊎_elim k0 (λ (c : k ≢ 0). ⊎_elim k1 (λ (d : k ≢ 1). let z : k ≡ 2 = omega arith in k2 z) (same? k 1)) (same? k 0))
    (λ (a : 3 ≤ k).
    ⊎_elim (λ (c : k < 6). let z : k ≤ 5 = omega arith in k3 a z)
    (λ (c : 6 ≤ k). ⊎_elim k6 (λ (d : k ≢ 6). let z : k ≡ 7 = omega arith in k7 z) (same? k 6)) (lt? k 6))
    (lt? k 3)

-- ---- each kind's rule
module _ (n : ℕ) (env : Env) (table label next b : ℕ) (o : Out) where
  abbrev q : Out
  q = at_span (term_span env.ws b) o

  term_none : term_kind env.ws b ≡ in_words.no_term → term_ops n env table label next b o ≡ o
  unfolding term_ops
  term_none k = rw k

  pub term_return : term_kind env.ws b ≡ in_words.return → term_ops n env table label next b o ≡ return_ops n env.ws env.places b (at_span (term_span env.ws b) o)
  unfolding term_ops
  term_return k = rw k

  pub term_jump : term_kind env.ws b ≡ in_words.jump
      → term_ops n env table label next b o ≡ edge n env.ws env.places next (first_edge env.ws b) (at_span (term_span env.ws b) o)
  unfolding term_ops
  term_jump k = rw k

  pub term_tail : term_kind env.ws b ≡ in_words.tail_call
      → term_ops n env table label next b o
      ≡ lower_tail n env.places (term_operands env.ws b) (get_or env.functions (term_x env.ws b) 0) (at_span (term_span env.ws b) o)
  unfolding term_ops
  term_tail k = rw k

  pub term_switch : term_kind env.ws b ≡ in_words.switch
      → term_ops n env table label next b o ≡ switch_ops n env.ws env.places table label next b (at_span (term_span env.ws b) o)
  unfolding term_ops
  term_switch k = rw k

  pub term_branch : in_words.branch ≤ term_kind env.ws b → term_kind env.ws b ≤ in_words.branch_cmp
      → term_ops n env table label next b o ≡ branch_ops n env.ws env.places next b (at_span (term_span env.ws b) o)
  unfolding term_ops
  term_branch lo hi =
      rw (
        ne_eqb (term_kind env.ws b) in_words.no_term (λ (e : term_kind env.ws b ≡ in_words.no_term). omega arith),
        ne_eqb (term_kind env.ws b) in_words.return (λ (e : term_kind env.ws b ≡ in_words.return). omega arith),
        ne_eqb (term_kind env.ws b) in_words.jump (λ (e : term_kind env.ws b ≡ in_words.jump). omega arith),
        ne_eqb (term_kind env.ws b) in_words.tail_call (λ (e : term_kind env.ws b ≡ in_words.tail_call). omega arith),
        ne_eqb (term_kind env.ws b) in_words.switch (λ (e : term_kind env.ws b ≡ in_words.switch). omega arith),
      )

  -- ---- what each adds
  return_adds : Adds Any (at_span (term_span env.ws b) o) (return_ops n env.ws env.places b (at_span (term_span env.ws b) o))
  unfolding return_ops
  return_adds =
      let x : ℕ = term_place env.ws env.places b 0 in
      pick-both (λ (f : Out → Out). Adds Any q (f q)) (eqb (term_operand_count env.ws b) 0) _ _ (adds_emit q (word op.ret))
      (adds_then (by-fetch n x (stays q)).adds
      (adds_then (adds_emit (fetched n x q) (word (op.mov 0 (operand_reg n x q.last))))
      (adds_emit (emit (word (op.mov 0 (operand_reg n x q.last))) (fetched n x q)) (word op.ret))))

  tail_adds : (f : ℕ) → Adds Any (at_span (term_span env.ws b) o) (lower_tail n env.places (term_operands env.ws b) f (at_span (term_span env.ws b) o))
  unfolding lower_tail shuffle move_pairs
  tail_adds f = adds_then (adds_all q (shuffle_words n env.places 0 (term_operands env.ws b))) (adds_all (emit_all (shuffle_words n env.places 0 (term_operands env.ws b)) q) (tail_words f (length (term_operands env.ws b))))

  spanned : Adds Any o (at_span (term_span env.ws b) o)
  spanned = adds_span o (term_span env.ws b)

  pub term_adds : {P : ℕ → Type 0} → term_kind env.ws b < 8 → ((l : ℕ) → P l → l ≢ blocks env.ws + b)
      → ((l : ℕ) → P l → label ≤ l → l < label + pick (is_switch env.ws b) (pad_count env.ws env.places (first_edge env.ws b) (term_y env.ws b)) 0 → ⊥)
      → Adds P o (term_ops n env table label next b o)
  term_adds {P} known f g =
      by_kind (term_kind env.ws b) known (λ k. rw (term_none k) (adds_none o)) (λ k. rw (term_return k) (adds_then (adds_any spanned) (adds_any return_adds)))
      (λ k. rw (term_jump k) (adds_then (adds_any spanned) (adds_any (edge_adds n env.ws env.places (first_edge env.ws b) next q))))
      (λ lo hi. rw (term_branch lo hi) (adds_then (adds_any spanned) (branches_add n env.ws env.places next b q lo hi f)))
      (λ k. rw (term_tail k) (adds_then (adds_any spanned) (adds_any (tail_adds (get_or env.functions (term_x env.ws b) 0)))))
      (λ k.
      rw (term_switch k)
      (adds_then (adds_any spanned) (switch_adds n env.ws env.places table label next b q (λ l p a z. g l p a (rw k z)))))

  -- two ops at least for each pad
  pub term_long : term_kind env.ws b < 8 → (term_kind env.ws b ≡ in_words.switch → (i : ℕ) → i < term_y env.ws b → edge_target env.ws (first_edge env.ws b + i) < blocks env.ws)
      → length o.ops + 2 * pick (is_switch env.ws b) (pad_count env.ws env.places (first_edge env.ws b) (term_y env.ws b)) 0
      ≤ length (term_ops n env table label next b o).ops
  term_long known f =
      ⊎_elim
      (λ (k : term_kind env.ws b ≡ in_words.switch).
      let s : length q.ops ≡ length o.ops = ap length (span_ops o (term_span env.ws b)) in
      let l = switch_long n env.ws env.places table label next b q (f k) in
      rw (term_switch k, eq-eqb (term_kind env.ws b) in_words.switch k) (omega (arith, s, l)))
      (λ (k : term_kind env.ws b ≢ in_words.switch).
      rw (ne_eqb (term_kind env.ws b) in_words.switch k)
      (omega (arith, adds_few (term_adds {P = Nil} known (λ l z. absurd (omega arith)) (λ l z a c. omega arith)))))
      (same? (term_kind env.ws b) in_words.switch)

-- ---- Tail: its shuffle stands, ..
pub tail_at : (n : ℕ) (env : Env) {from : ℕ} {B F : Out} → Finished from B F → {P : ℕ → Type 0} (f : ℕ) (arguments : List ℕ) (q : Out) → from ≤ length q.ops
    → Adds P (lower_tail n env.places arguments f q) B → Stands F.ops (length q.ops) (shuffle_words n env.places 0 arguments)
unfolding lower_tail shuffle move_pairs adds_all
tail_at n env fin f arguments q h y =
    run_stands fin (adds_all q (shuffle_words n env.places 0 arguments))
    (adds_then (adds_any (adds_all (emit_all (shuffle_words n env.places 0 arguments) q) (tail_words f (length arguments)))) y) h (moves_go n _ _)

-- .. then Tail, or an op that goes on and Ret, ..
data TailForm : List ℕ → Type 0 where
  one : {w : ℕ} → (parts w).code ≡ 14 → TailForm (w ∷ [])
  two : {w : ℕ} → goes_on w ≡ true → TailForm (w ∷ word op.ret ∷ [])

tail-code : (f : ℕ) → (parts (word (op.tail f))).code ≡ 14
tail-code f = code-word (op.tail f) (omega arith)

tail_form : (f arguments : ℕ) → TailForm (tail_words f arguments)
unfolding tail_words
tail_form f arguments =
    pick-both TailForm (both (leb arguments first_kept) (eqb (function_kind f) bytecode)) _ _ (one (tail-code (function_number f % 2 ^ 32))) (two (called_goes f))

form_ends : {regs : List ℕ} {from : ℕ} {B F : Out} → Finished from B F → AllLeave regs from B F → {l : List ℕ} → TailForm l → (at : ℕ) → from ≤ at
    → at + length l ≤ length B.ops → ((k : ℕ) → k < length l → op_at B (at + k) ≡ get_or l k 0) → Ends regs F l at
form_ends fin exits (one {w} e) at h room is =
    let z : at + 0 ≡ at = add-zero at in
    leaves (exits at w h (omega arith) (rw z at (is 0 (omega arith))) (by_tail e))
form_ends {B = B} fin exits (two {w} g) at h room is =
    let z : at + 0 ≡ at = add-zero at in
    let e : op_at B at ≡ w = rw z at (is 0 (omega arith)) in
    goes (goes_there fin at h (omega arith) (rw e g) ∙ e) g (leaves (exits (at + 1) (word op.ret) (omega arith) (omega arith) (is 1 (omega arith)) (by_ret refl)))

-- .. by which control leaves
pub tail-ends : (n : ℕ) (env : Env) {regs : List ℕ} {from : ℕ} {B F : Out} → Finished from B F → AllLeave regs from B F → {P : ℕ → Type 0} (f : ℕ) (arguments : List ℕ)
    (q : Out) → from ≤ length q.ops → Adds P (lower_tail n env.places arguments f q) B
    → Ends regs F (tail_words f (length arguments)) (length q.ops + length (shuffle_words n env.places 0 arguments))
unfolding lower_tail shuffle move_pairs adds_all
tail-ends n env fin exits f arguments q h y =
    let words : List ℕ = shuffle_words n env.places 0 arguments in
    let r : Out = emit_all words q in
    let x : Adds Any r (emit_all (tail_words f (length arguments)) r) = adds_all r (tail_words f (length arguments)) in
    let e : length r.ops ≡ length q.ops + length words = adds_long (adds_all q words) in
    rw (← e)
    (form_ends fin exits (tail_form f (length arguments)) (length r.ops) (omega arith) (omega (arith, adds_long x, adds_few y)) (between_at x y))

-- ---- Return
module _ (n : ℕ) (env : Env) {regs : List ℕ} {from : ℕ} {B F : Out} (fin : Finished from B F) (exits : AllLeave regs from B F) where
  -- a Ret that was added
  ret-leaves : {P : ℕ → Type 0} (q : Out) → from ≤ length q.ops → Adds P (emit (word op.ret) q) B → Leaves regs F (word op.ret) (length q.ops)
  unfolding adds_emit
  ret-leaves q h y =
      let z : length q.ops + 0 ≡ length q.ops = add-zero (length q.ops) in
      exits (length q.ops) (word op.ret) h (omega (arith, emit_long (word op.ret) q, adds_few y)) (rw z at (between_at (adds_emit q (word op.ret)) y 0 (omega arith)))
      (by_ret refl)

  pub return_at : {P : ℕ → Type 0} (b : ℕ) (q : Out) → from ≤ length q.ops → Adds P (return_ops n env.ws env.places b q) B
      → ReturnAt n env regs F b (length q.ops)
  unfolding return_ops adds_emit
  return_at {P} b q h y =
      let c : ℕ = term_operand_count env.ws b in
      let x : ℕ = term_place env.ws env.places b 0 in
      let r : Out = fetched n x q in
      let reg : ℕ = operand_reg n x q.last in
      let m : ℕ = word (op.mov 0 reg) in
      let go : goes_on m ≡ true = goes_op 2 0 reg 0 0 (omega arith) refl in
      let more : length q.ops ≤ length r.ops = adds_few (by-fetch n x (stays q)).adds in
      let l : length (emit m r).ops ≡ length r.ops + 1 = emit_long m r in
      ⊎_elim
      (λ (e : c ≡ 0). nothing e (ret-leaves q h (rw e at y)))
      (λ (d : c ≢ 0).
      let y2 : Adds P (emit (word op.ret) (emit m r)) B = rw (ne_eqb c 0 d) at y in
      let y1 : Adds Nil (emit m r) B = adds_then (adds_any (adds_emit (emit m r) (word op.ret))) (adds_nil y2) in
      let y0 : Adds Nil r B = adds_then (adds_any (adds_emit r m)) y1 in
      let z : length r.ops + 0 ≡ length r.ops = add-zero (length r.ops) in
      let is : op_at B (length r.ops) ≡ m = rw z at (between_at (adds_emit r m) y1 0 (omega arith)) in
      value reg (length r.ops) d (fetch_at fin n x q h y0)
      (goes_there fin (length r.ops) (omega arith) (omega (arith, adds_few y1)) (rw is go) ∙ is)
      (rw (← l) (ret-leaves (emit m r) (omega arith) y2)))
      (same? c 0)
